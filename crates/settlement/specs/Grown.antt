-- What a step adds to a table.
use Rattle.std.specs.Prelude.{◌≡◌, ℕ, ◌+◌, ◌-◌, ◌<◌, ◌≤◌, cond, ◌&&◌, List, length, ℤ, pos, ◌+ℤ◌, ◌≢◌, nat_le, slice_index_or, unsigned_abs}
use Rattle.dayfile.specs.Records.{Records}
use Rattle.codes.specs.Cells.{cell}
use Rattle.codes.specs.declared.code.Code.{Code}
use Rattle.codes.specs.declared.table.Table.{Table}
use Rattle.charges.specs.Items.{penalties}

-- one cell has grown by an amount, every other is as it was
pub record Added (t u : Table) (code : Code) (party : ℕ) (amount : ℤ) : Type 0 where
  pub here : cell u code party ≡ cell t code party +ℤ amount
  pub others : (d : Code) (q : ℕ) → ((d ≡ code) × (q ≡ party) → ⊥) → cell u d q ≡ cell t d q

-- the row of a code has grown by f, every other is as it was
pub record RowAdded (t u : Table) (code : Code) (f : ℕ → ℤ) : Type 0 where
  pub row : (q : ℕ) → cell u code q ≡ cell t code q +ℤ f q
  pub others : (d : Code) (q : ℕ) → (d ≢ code) → cell u d q ≡ cell t d q

-- every cell has grown by f
abbrev pub Grown : Table → Table → (Code → ℕ → ℤ) → Type 0
Grown t u f = (code : Code) (party : ℕ) → cell u code party ≡ cell t code party +ℤ f code party

-- a row, or a table, to which a day's amounts can be added
abbrev pub RoomIn : Table → Code → Type 0
RoomIn t code = (party : ℕ) → unsigned_abs (cell t code party) ≤ 500000000000000000

abbrev pub Room : Table → Type 0
Room t = (code : Code) → RoomIn t code

-- the amounts of a list, for the accounts from 1 on
abbrev pub listed_amount : List ℤ → ℕ → ℤ
listed_amount xs party = cond (nat_le 1 party && nat_le party (length xs)) (slice_index_or xs (party - 1) (pos 0)) (pos 0)

-- each account's penalties, account 1 first
pub record Penalized (r : Records) (xs : List ℤ) : Type 0 where
  pub long : length xs ≡ r.heading.accounts
  pub each : (k : ℕ) → k < length xs → slice_index_or xs k (pos 0) ≡ penalties r (k + 1)
