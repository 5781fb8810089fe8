-- Tables that are filled by a function of code and party.
use Rattle.std.specs.Prelude.{ℕ, List, map, ℤ, Some, None, Option}
use Rattle.std.specs.List.{flat_map}
use Rattle.faults.specs.declared.fault.Fault.{Fault}
use Rattle.codes.specs.Codes.{all_codes}
use Rattle.codes.specs.Parties.{party_numbers}
use Rattle.codes.specs.declared.code.Code.{Code}
use Rattle.codes.specs.declared.table.Table.{Table}

-- the row of a code
abbrev pub row_under : (Code → ℕ → ℤ) → Code → List ℤ
row_under f code = map (f code) party_numbers

-- the table with the amount f code party for each code and each of the parties
unfoldable pub table_of : (Code → ℕ → ℤ) → Table
table_of f = record { cells = flat_map (row_under f) all_codes }

-- what a call leaves of a table: filled where nothing is against it, and as it was where it is refused
abbrev pub filled_with : Option Fault → Table → (Code → ℕ → ℤ) → Table
filled_with None t f = table_of f
filled_with (Some fault) t f = t
