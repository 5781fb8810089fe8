-- The text of a sheet.
use Rattle.std.specs.Prelude.{Bool, false, not, ℕ, cond, List, [], ◌++◌, map, Some, None, sum_by, Option, ◌==◌, unsigned_abs}
use Rattle.std.specs.List.{range_with_len, flat_map}
use Rattle.codes.specs.Cells.{cell_at, cell_count}
use Rattle.codes.specs.declared.table.Table.{Table}
use Rattle.codes.specs.declared.table.TableCell.{TableCell}
use Rattle.statement.specs.Lines.{amount_line}
use Rattle.statement.specs.Statements.{last_line}

-- the line of a cell, and none for an amount of 0
abbrev pub line_of : Option TableCell → List ℕ
line_of None = []
line_of (Some c) = cond (unsigned_abs c.amount == 0) [] (amount_line c.code c.party c.amount)

-- 1 for a cell that has a line
abbrev pub one_of : Option TableCell → ℕ
one_of None = 0
one_of (Some c) = cond (unsigned_abs c.amount == 0) 0 1

-- whether a cell has a line
abbrev pub has_line : Option TableCell → Bool
has_line None = false
has_line (Some c) = not (unsigned_abs c.amount == 0)

-- the first cells
abbrev pub first_cells : ℕ → Table → List (Option TableCell)
first_cells count page = map (cell_at page) (range_with_len 0 count)

abbrev pub lines_to : ℕ → Table → List ℕ
lines_to count page = flat_map line_of (first_cells count page)

abbrev pub lines_in : ℕ → Table → ℕ
lines_in count page = sum_by one_of (first_cells count page)

-- a line for each cell that is not 0, by code and then party, and END with how many these are
unfoldable pub sheet_text : Table → List ℕ
sheet_text page = lines_to cell_count page ++ last_line (lines_in cell_count page)
