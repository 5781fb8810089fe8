-- The codes: number, letter, digit, kind of party and basis of every one.
use Rattle.std.specs.Prelude.{ℕ, ◌-◌, cond, ◌&&◌, List, [], ◌∷◌, length, Some, None, Option, nat_le, slice_index_or}
use Rattle.codes.specs.declared.code.Basis.{Basis}
use Rattle.codes.specs.declared.code.Basis.TheVariants.{Own, Purchases}
use Rattle.codes.specs.declared.code.Code.{Code}
use Rattle.codes.specs.declared.code.Code.TheVariants.{A1, A2, A3, A4, B1, B2, B3, B4, F1, F2, F3, F4, F5, F6}
use Rattle.codes.specs.declared.code.CodeRow.{CodeRow}
use Rattle.codes.specs.declared.code.PartyKind.{PartyKind}
use Rattle.codes.specs.declared.code.PartyKind.TheVariants.{Account, ExternalSystem, WorkingCapitalFund, UniversalServiceFund}

abbrev pub code_number : Code → ℕ
code_number A1 = 1
code_number A2 = 2
code_number A3 = 3
code_number A4 = 4
code_number B1 = 5
code_number B2 = 6
code_number B3 = 7
code_number B4 = 8
code_number F1 = 9
code_number F2 = 10
code_number F3 = 11
code_number F4 = 12
code_number F5 = 13
code_number F6 = 14

-- letters are bytes: 65 is A, 66 is B, 70 is F
abbrev pub row_of : Code → CodeRow
row_of A1 = record { code = A1; letter = 65; digit = 1; party = Account; basis = Own }
row_of A2 = record { code = A2; letter = 65; digit = 2; party = Account; basis = Purchases }
row_of A3 = record { code = A3; letter = 65; digit = 3; party = Account; basis = Own }
row_of A4 = record { code = A4; letter = 65; digit = 4; party = Account; basis = Purchases }
row_of B1 = record { code = B1; letter = 66; digit = 1; party = Account; basis = Own }
row_of B2 = record { code = B2; letter = 66; digit = 2; party = Account; basis = Purchases }
row_of B3 = record { code = B3; letter = 66; digit = 3; party = Account; basis = Own }
row_of B4 = record { code = B4; letter = 66; digit = 4; party = Account; basis = Purchases }
row_of F1 = record { code = F1; letter = 70; digit = 1; party = Account; basis = Purchases }
row_of F2 = record { code = F2; letter = 70; digit = 2; party = ExternalSystem; basis = Own }
row_of F3 = record { code = F3; letter = 70; digit = 3; party = Account; basis = Own }
row_of F4 = record { code = F4; letter = 70; digit = 4; party = WorkingCapitalFund; basis = Own }
row_of F5 = record { code = F5; letter = 70; digit = 5; party = Account; basis = Own }
row_of F6 = record { code = F6; letter = 70; digit = 6; party = UniversalServiceFund; basis = Own }

abbrev pub basis_of : Code → Basis
basis_of code = (row_of code).basis

abbrev pub kind_number : PartyKind → ℕ
kind_number Account = 1
kind_number ExternalSystem = 2
kind_number WorkingCapitalFund = 3
kind_number UniversalServiceFund = 4

-- 0 where nothing is shared
abbrev pub basis_number : Basis → ℕ
basis_number Own = 0
basis_number Purchases = 1

-- every code, in order
abbrev pub all_codes : List Code
all_codes = A1 ∷ A2 ∷ A3 ∷ A4 ∷ B1 ∷ B2 ∷ B3 ∷ B4 ∷ F1 ∷ F2 ∷ F3 ∷ F4 ∷ F5 ∷ F6 ∷ []

abbrev pub code_count : ℕ
code_count = length all_codes

-- the place in that order, from 0
abbrev pub code_index : Code → ℕ
code_index code = code_number code - 1

abbrev pub code_at : ℕ → Code
code_at i = slice_index_or all_codes i A1

-- the code with a number
abbrev pub code_of : ℕ → Option Code
code_of number = cond (nat_le 1 number && nat_le number code_count) (Some (code_at (number - 1))) None
