-- What an example asks, and what it is answered.
use Rattle.std.specs.Prelude.{ℕ, Bool, true, false, ◌&&◌, List, [], ◌∷◌, ◌++◌, map, length, ℤ, pos, negsuc, ◌-ℤ◌, Some, None, Ok, Err, Option, Result, ◌==◌}
use Rattle.faults.specs.Numbers.{layer_number, refusal_layer, refusal_number}
use Rattle.faults.specs.declared.fault.Fault.{Fault}
use Rattle.dayfile.specs.Records.{Records}
use Rattle.sharing.specs.Choice.{rule_parts}
use Rattle.sharing.specs.Shareable.{share_answer}
use Rattle.sharing.specs.declared.choice.Rule.{Rule}
use Rattle.codes.specs.declared.code.Code.{Code}
use Rattle.settlement.specs.Days.{day_cell, settle_refusal}
use Rattle.sharing.specs.Running.{running}
use Rattle.correcting.specs.Readings.{correction, with_reading}
use Rattle.correcting.specs.declared.reading.Reading.{Reading}
use Rattle.loading.specs.Loading.{file_records}
use Rattle.ledger.specs.Issues.{noted, notes_of}
use Rattle.ledger.specs.declared.note.Note.{Note}
use Rattle.statement.specs.Statements.{statement_text}
use Rattle.day_text.specs.Texts.{first_notes, printed_text}

-- the numbers that come out, or the number and the layer of the refusal
pub data Answer : Type 0 where
  numbers : List ℤ → Answer
  refused : ℕ → ℕ → Answer

-- a code and a party
pub record Asked : Type 0 where
  pub code : Code
  pub party : ℕ

pub data Example : Type 0 where
  -- an amount shared over weights under a rule
  sharing : Rule → ℕ → List ℕ → Answer → Example
  -- a day settled under a rule, and the amounts of some codes and parties
  settling : Rule → Records → List Asked → Answer → Example
  -- what is printed of a file
  printing : List ℕ → Answer → Example
  -- a file settled and issued under the running rule, a reading corrected, the day settled under that rule and issued
  -- again: the statement of the second issue
  correcting : List ℕ → Reading → Answer → Example

-- what an example says should come out
abbrev pub expected : Example → Answer
expected (sharing rule amount weights answer) = answer
expected (settling rule r asked answer) = answer
expected (printing file answer) = answer
expected (correcting file reading answer) = answer

abbrev pub fault_answer : Fault → Answer
fault_answer f = refused (refusal_number f.refusal) (layer_number (refusal_layer f.refusal))

abbrev pub parts_answer : Result (Unit {0}) Fault → List ℕ → Answer
parts_answer (Ok done) parts = numbers (map pos parts)
parts_answer (Err f) parts = fault_answer f

abbrev pub cells_answer : Option Fault → List ℤ → Answer
cells_answer None amounts = numbers amounts
cells_answer (Some f) amounts = fault_answer f

-- the notes of a second issue: what each cell of the corrected records has over the notes of the first
abbrev pub second_notes : List Note → Records → List Note
second_notes first r = notes_of 1 (λ code party. day_cell running r code party -ℤ noted first code party)

abbrev pub second_statement : List Note → Records → List ℕ
second_statement first r = statement_text r.heading (first ++ second_notes first r) 1

-- the statement after a reading was corrected
abbrev pub corrected_answer : Records → Result Reading Fault → Answer
corrected_answer r (Ok reading) = numbers (map pos (second_statement (first_notes r) (with_reading r reading)))
corrected_answer r (Err f) = fault_answer f

abbrev pub restated_answer : Reading → Result Records Fault → Answer
restated_answer reading (Ok r) = corrected_answer r (correction r reading)
restated_answer reading (Err f) = fault_answer f

-- what the definitions give
abbrev pub defined : Example → Answer
defined (sharing rule amount weights answer) =
    parts_answer (share_answer amount weights (length weights)) (rule_parts rule amount weights)
defined (settling rule r asked answer) =
    cells_answer (settle_refusal r) (map (λ c. day_cell (rule_parts rule) r c.code c.party) asked)
defined (printing file answer) = numbers (map pos (printed_text file))
defined (correcting file reading answer) = restated_answer reading (file_records file)

abbrev pub same_number : ℤ → ℤ → Bool
same_number (pos m) (pos n) = m == n
same_number (pos m) (negsuc n) = false
same_number (negsuc m) (pos n) = false
same_number (negsuc m) (negsuc n) = m == n

abbrev pub same_numbers : List ℤ → List ℤ → Bool
same_numbers [] [] = true
same_numbers [] (y ∷ ys) = false
same_numbers (x ∷ xs) [] = false
same_numbers (x ∷ xs) (y ∷ ys) = same_number x y && same_numbers xs ys

abbrev pub same_answer : Answer → Answer → Bool
same_answer (numbers xs) (numbers ys) = same_numbers xs ys
same_answer (numbers xs) (refused n l) = false
same_answer (refused m k) (numbers ys) = false
same_answer (refused m k) (refused n l) = m == n && k == l

-- the test of a whole table
abbrev pub all_right : List Example → Bool
all_right [] = true
all_right (x ∷ xs) = same_answer (defined x) (expected x) && all_right xs
