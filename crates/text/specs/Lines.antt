-- Lines of text: fields are parted by one space, and byte 10 ends a line.
use Rattle.std.specs.Prelude.{ℕ, List, [], ◌∷◌, ◌++◌, codes, decimal}
use Rattle.std.specs.List.{flat_map}
use Rattle.faults.specs.Numbers.{layer_number, refusal_layer, refusal_number}
use Rattle.faults.specs.declared.fault.Fault.{Fault}

-- a space and a number in decimal digits
abbrev pub word : ℕ → List ℕ
word n = 32 ∷ decimal n

abbrev pub words : List ℕ → List ℕ
words numbers = flat_map word numbers

abbrev pub line : List ℕ → List ℕ → List ℕ
line name numbers = name ++ (words numbers ++ (10 ∷ []))

-- the line of a refusal: its number and layer, and its place
abbrev pub refused_text : Fault → List ℕ
refused_text f =
    line (codes "REFUSED")
    (refusal_number f.refusal ∷ layer_number (refusal_layer f.refusal) ∷ f.place.offset ∷ f.place.account ∷ f.place.node ∷ f.place.hour ∷ [])

-- room that the line of every refusal fits: its name, six numbers of at most 20 digits with their spaces, and the end
abbrev pub refused_room : ℕ
refused_room = 134
