-- The cells of a table.
use Rattle.std.specs.Prelude.{◌≡◌, ℕ, ◌+◌, ◌*◌, ◌/◌, ◌%◌, true, cond, List, replicate, ℤ, pos, is_some, Some, None, Option, nat_lt, slice_index, slice_index_or}
use Rattle.codes.specs.Codes.{code_at, code_count, code_index}
use Rattle.codes.specs.Parties.{party_count, party_numbers, party_place}
use Rattle.codes.specs.declared.code.Code.{Code}
use Rattle.codes.specs.declared.table.Table.{Table}
use Rattle.codes.specs.declared.table.TableCell.{TableCell}

abbrev pub cell_count : ℕ
cell_count = code_count * party_count

abbrev pub empty_cells : List ℤ
empty_cells = replicate cell_count (pos 0)

-- the amount under a code at a party's place
abbrev pub amount_at : List ℤ → Code → Option ℕ → ℤ
amount_at cells code None = pos 0
amount_at cells code (Some place) = slice_index_or cells (code_index code * party_count + place) (pos 0)

-- the amount of a code and a party; 0 where there is no such party
abbrev pub cell : Table → Code → ℕ → ℤ
cell t code party = amount_at t.cells code (party_place party)

-- code, party and amount at a place of the table
abbrev pub cell_at : Table → ℕ → Option TableCell
cell_at t place =
    cond (nat_lt place cell_count)
    (Some (record { code = code_at (place / party_count); party = slice_index party_numbers (place % party_count); amount = slice_index_or t.cells place (pos 0) }))
    None

-- the cell of a code and a party has this amount, if there is such a party, and every other cell is as it was
pub record Put (t u : Table) (code : Code) (party : ℕ) (amount : ℤ) : Type 0 where
  pub here : is_some (party_place party) ≡ true → cell u code party ≡ amount
  pub others : (d : Code) (q : ℕ) → ((d ≡ code) × (q ≡ party) → ⊥) → cell u d q ≡ cell t d q
