-- What an issue adds to a ledger.
use Rattle.std.specs.Prelude.{ℕ, zero, suc, ◌+◌, cond, ◌&&◌, List, [], ◌∷◌, length, take, ℤ, pos, negsuc, ◌-ℤ◌, Ok, Err, Result, ◌==◌, nat_le}
use Rattle.std.specs.List.{flat_map}
use Rattle.codes.specs.Cells.{cell}
use Rattle.codes.specs.Codes.{all_codes, code_number}
use Rattle.codes.specs.Parties.{party_numbers}
use Rattle.codes.specs.Sums.{sum_over}
use Rattle.codes.specs.declared.code.Code.{Code}
use Rattle.codes.specs.declared.table.Table.{Table}
use Rattle.faults.specs.Places.{plain}
use Rattle.faults.specs.declared.fault.Fault.{Fault}
use Rattle.faults.specs.declared.refusal.Refusal.TheVariants.{LedgerFull}
use Rattle.text.specs.Written.{written}
use Rattle.ledger.specs.declared.note.Note.{Note}

-- what a note counts for under a code and a party: its amount, if it is of both
abbrev pub counted : Code → ℕ → Note → ℤ
counted code party n = cond (n.code == code_number code && n.party == party) n.amount (pos 0)

-- what notes add up to under a code and a party
abbrev pub noted : List Note → Code → ℕ → ℤ
noted notes code party = sum_over (counted code party) notes

-- the same for the first entries of a ledger
abbrev pub earlier : List Note → ℕ → Code → ℕ → ℤ
earlier ledger count code party = noted (take count ledger) code party

-- a note for an amount, and none for 0
abbrev pub note_for : ℕ → Code → ℕ → ℤ → List Note
note_for number code party (pos zero) = []
note_for number code party (pos (suc n)) = record { issue = number; code = code_number code; party = party; amount = pos (suc n) } ∷ []
note_for number code party (negsuc n) = record { issue = number; code = code_number code; party = party; amount = negsuc n } ∷ []

-- a note for each of the parties under a code, by what f has for the two
unfoldable pub row_notes : ℕ → (Code → ℕ → ℤ) → List ℕ → Code → List Note
row_notes number f parties code = flat_map (λ party. note_for number code party (f code party)) parties

-- by code and then party, all codes with all parties
unfoldable pub notes_of : ℕ → (Code → ℕ → ℤ) → List Note
notes_of number f = flat_map (row_notes number f party_numbers) all_codes

-- the notes that an issue adds: what each cell has over its earlier notes
abbrev pub new_notes : List Note → ℕ → ℕ → Table → List Note
new_notes ledger count number t = notes_of number (λ code party. cell t code party -ℤ earlier ledger count code party)

-- an issue answers how many notes it added, or that the ledger has no room for them
abbrev pub issue_answer : List Note → ℕ → List Note → Result ℕ Fault
issue_answer ledger count new = cond (nat_le (count + length new) (length ledger)) (Ok (length new)) (Err (plain LedgerFull))

-- and leaves them behind the earlier ones, every other entry as it was, or leaves all as it was
abbrev pub issue_leaves : List Note → ℕ → List Note → List Note
issue_leaves ledger count new = cond (nat_le (count + length new) (length ledger)) (written ledger count new) ledger
