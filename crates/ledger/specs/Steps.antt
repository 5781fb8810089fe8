-- What the steps of an issue ask and promise one another.
use Rattle.std.specs.Prelude.{Bool, not, ◌==◌, ◌≡◌, ℕ, ◌<◌, ◌≤◌, true, List, length, take, ℤ, ◌-ℤ◌, slice_index_or, unsigned_abs}
use Rattle.codes.specs.Cells.{cell}
use Rattle.codes.specs.Parties.{party_numbers}
use Rattle.codes.specs.declared.code.Code.{Code}
use Rattle.codes.specs.declared.code.CodeRow.{CodeRow}
use Rattle.codes.specs.declared.table.Table.{Table}
use Rattle.ledger.specs.Issues.{counted, noted, row_notes}
use Rattle.ledger.specs.Notes.{known, no_note}
use Rattle.ledger.specs.declared.note.Note.{Note}

-- a magnitude that 64 bits hold
abbrev pub holdable : ℕ
holdable = 1000000000000000000

-- every cell of u is that of t less what f has for its code and party
pub record TakenOff (t u : Table) (f : Code → ℕ → ℤ) : Type 0 where
  pub each : (code : Code) (party : ℕ) → cell u code party ≡ cell t code party -ℤ f code party

-- a note of a known code and party, and no cell that it leaves too large to hold
pub record Takeable (t : Table) (n : Note) : Type 0 where
  pub coded : known n ≡ true
  pub small : (code : Code) (party : ℕ) → unsigned_abs (cell t code party -ℤ counted code party n) ≤ holdable

-- the same for notes, one after another
pub record AllTakeable (t : Table) (notes : List Note) : Type 0 where
  pub coded : (i : ℕ) → i < length notes → known (slice_index_or notes i no_note) ≡ true
  pub small : (i : ℕ) (code : Code) (party : ℕ) → unsigned_abs (cell t code party -ℤ noted (take i notes) code party) ≤ holdable

-- the notes of a code's row in the table of codes
abbrev pub rows_notes : ℕ → (Code → ℕ → ℤ) → CodeRow → List Note
rows_notes number f row = row_notes number f party_numbers row.code

-- whether a cell takes a note: an amount of 0 takes none
abbrev pub takes_note : (Code → ℕ → ℤ) → Code → ℕ → Bool
takes_note f code party = not (unsigned_abs (f code party) == 0)
