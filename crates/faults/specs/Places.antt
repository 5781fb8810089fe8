-- Places, and the faults that are made of them.
-- Assumes nothing.
use Rattle.std.specs.Prelude.{ℕ, List, ◌++◌, codes, decimal}
use Rattle.faults.specs.Numbers.{layer_number, refusal_layer, refusal_number}
use Rattle.faults.specs.declared.fault.Fault.{Fault}
use Rattle.faults.specs.declared.fault.Place.{Place}
use Rattle.faults.specs.declared.refusal.Refusal.{Refusal}

-- the account, node and hour that a record or a call names, and no offset
abbrev pub at : ℕ → ℕ → ℕ → Place
at account node hour = record { offset = 0; account = account; node = node; hour = hour }

-- no place: 0 for all four
abbrev pub nowhere : Place
nowhere = at 0 0 0

abbrev pub fault_of : Refusal → Place → Fault
fault_of reason place = record { refusal = reason; place = place }

-- a fault that names no place
abbrev pub plain : Refusal → Fault
plain reason = fault_of reason nowhere

-- the same fault, of a record that begins at the offset
abbrev pub reading_at : ℕ → Fault → Fault
reading_at offset f =
    record { refusal = f.refusal; place = record { offset = offset; account = f.place.account; node = f.place.node; hour = f.place.hour } }

-- the offset, account, node and hour, with a space between
abbrev pub place_text : Place → List ℕ
place_text p = decimal p.offset ++ codes " " ++ decimal p.account ++ codes " " ++ decimal p.node ++ codes " " ++ decimal p.hour

-- the numbers of the reason and of its layer, and the place, with a space between
abbrev pub fault_text : Fault → List ℕ
fault_text f = decimal (refusal_number f.refusal) ++ codes " " ++ decimal (layer_number (refusal_layer f.refusal)) ++ codes " " ++ place_text f.place
