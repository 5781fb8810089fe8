-- The lines of amounts.
use Rattle.std.specs.Prelude.{ℕ, ◌+◌, List, [], ◌∷◌, ◌++◌, ℤ, Some, None, Option}
use Rattle.codes.specs.Codes.{code_of, row_of}
use Rattle.codes.specs.declared.code.Code.{Code}
use Rattle.ledger.specs.declared.note.Note.{Note}
use Rattle.text.specs.Lines.{word}
use Rattle.statement.specs.Sides.{side_and_magnitude, side_letter}
use Rattle.statement.specs.declared.side.Side.{Side}

-- the letter and the digit of a code, as A1
abbrev pub code_name : Code → List ℕ
code_name code = (row_of code).letter ∷ (48 + (row_of code).digit) ∷ []

abbrev pub sided_line : Code → ℕ → Side × ℕ → List ℕ
sided_line code party amount = code_name code ++ (word party ++ ((32 ∷ side_letter amount.0 ∷ []) ++ (word amount.1 ++ (10 ∷ []))))

-- code, party, side and magnitude, as A1 1 P 150000000, and the end of the line
unfoldable pub amount_line : Code → ℕ → ℤ → List ℕ
amount_line code party amount = sided_line code party (side_and_magnitude amount)

-- under a code, if there is one
abbrev pub line_under : Option Code → ℕ → ℤ → List ℕ
line_under None party amount = []
line_under (Some code) party amount = amount_line code party amount

-- the line of a note; no sound note is without a code
abbrev pub note_line : Note → List ℕ
note_line n = line_under (code_of n.code) n.party n.amount
