-- What holds of codes, parties and tables.
use Rattle.std.specs.Prelude.{◌≡◌, ℕ, ◌<◌, Some, slice_index}
use Rattle.codes.specs.Cells.{cell, cell_at}
use Rattle.codes.specs.Codes.{code_at, code_index, code_number, code_of}
use Rattle.codes.specs.Parties.{party_count, party_numbers, party_place}
use Rattle.codes.specs.declared.code.Code.{Code}
use Rattle.codes.specs.declared.table.Table.{Table}
use Rattle.codes.specs.declared.table.TableCell.{TableCell}

-- a code's number tells the code, and its index the place in the order of codes
abbrev pub NumbersTellCodes : Type 0
NumbersTellCodes = (code : Code) → (code_of (code_number code) ≡ Some code) × (code_at (code_index code) ≡ code)

-- every place of the order of parties is the place of its party
abbrev pub PlacesTellParties : Type 0
PlacesTellParties = (place : ℕ) → place < party_count → party_place (slice_index party_numbers place) ≡ Some place

-- a cell at a place is the cell of its code and party
abbrev pub PlacesTellCells : Type 0
PlacesTellCells = (t : Table) (place : ℕ) (c : TableCell) → cell_at t place ≡ Some c → cell t c.code c.party ≡ c.amount
