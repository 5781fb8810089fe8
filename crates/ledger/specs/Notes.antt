-- Notes, and when those of a ledger are sound.
use Rattle.std.specs.Prelude.{ℕ, Bool, true, not, ◌&&◌, ◌||◌, List, [], ◌∷◌, length, take, replicate, ℤ, pos, is_some, ◌==◌, nat_le, nat_lt, unsigned_abs}
use Rattle.std.specs.List.{list_all}
use Rattle.codes.specs.Codes.{code_of}
use Rattle.codes.specs.Parties.{party_place}
use Rattle.codes.specs.declared.table.Table.{Table}
use Rattle.ledger.specs.declared.note.Note.{Note}

-- the largest magnitude of a note's amount and of a cell, in mils
abbrev pub amount_limit : ℕ
amount_limit = 100000000000000000

abbrev pub within : ℤ → Bool
within amount = nat_le (unsigned_abs amount) amount_limit

-- an emptied entry, which is no note; every note comes after it
abbrev pub no_note : Note
no_note = record { issue = 0; code = 0; party = 0; amount = pos 0 }

-- as many emptied entries
abbrev pub cleared : List Note → List Note
cleared ledger = replicate (length ledger) no_note

-- by issue, then code, then party
abbrev pub precedes : Note → Note → Bool
precedes a b =
    nat_lt a.issue b.issue || (a.issue == b.issue
    && (nat_lt a.code b.code || (a.code == b.code && nat_lt a.party b.party)))

-- there is such a code, and such a party
unfoldable pub known : Note → Bool
known n = is_some (code_of n.code) && is_some (party_place n.party)

-- a known code and party, an amount other than 0 within the limit, and one of the issues made
abbrev pub sound_note : ℕ → Note → Bool
sound_note issues n = known n && (within n.amount && (not (unsigned_abs n.amount == 0) && nat_lt n.issue issues))

-- it is sound and comes after y
abbrev pub sound_next : ℕ → Note → Note → Bool
sound_next issues y n = precedes y n && sound_note issues n

-- each is sound and comes after the one before it, the first after y
abbrev pub sound_after : ℕ → Note → List Note → Bool
sound_after issues y [] = true
sound_after issues y (x ∷ xs) = sound_next issues y x && sound_after issues x xs

abbrev pub sound_list : ℕ → List Note → Bool
sound_list issues notes = sound_after issues no_note notes

-- the first entries of a ledger, as many as the note count says, are sound notes of so many issues
abbrev pub sound_notes : List Note → ℕ → ℕ → Bool
sound_notes ledger count issues = nat_le count (length ledger) && sound_list issues (take count ledger)

abbrev pub all_within : List ℤ → Bool
all_within amounts = list_all within amounts

-- no cell of a table passes the limit
unfoldable pub within_limit : Table → Bool
within_limit t = all_within t.cells
