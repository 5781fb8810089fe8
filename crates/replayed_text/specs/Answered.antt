-- What is left in the buffer once the calls on a day were made.
use Rattle.std.specs.Prelude.{ℕ, ◌-◌, ◌≤◌, List, length, Ok, Err, slice_index_or}
use Rattle.history.specs.Events.{Answer}
use Rattle.history.specs.declared.steps.Outcome.TheVariants.{Added, Done, Written}
use Rattle.text.specs.Lines.{refused_text}
use Rattle.text.specs.Written.{left_if_fits}

-- the last of the answers; where there is none, nothing was asked
abbrev pub last_answer : List Answer → Answer
last_answer answers = slice_index_or answers (length answers - 1) (Ok Done)

-- how long the text of an answer is: a statement has said it, a refusal has its line, no other answer has a text
abbrev pub answered_length : Answer → ℕ
answered_length (Ok Done) = 0
answered_length (Ok (Added count)) = 0
answered_length (Ok (Written count)) = count
answered_length (Err fault) = length (refused_text fault)

-- and what the buffer then holds: the text of a statement is there before
abbrev pub answered_text : Answer → List ℕ → List ℕ
answered_text (Ok Done) buffer = buffer
answered_text (Ok (Added count)) buffer = buffer
answered_text (Ok (Written count)) buffer = buffer
answered_text (Err fault) buffer = left_if_fits (refused_text fault) buffer

-- where there is a line of a refusal, there is room for it
abbrev pub LineFits : Answer → List ℕ → Type 0
LineFits (Ok Done) buffer = Unit {0}
LineFits (Ok (Added count)) buffer = Unit {0}
LineFits (Ok (Written count)) buffer = Unit {0}
LineFits (Err fault) buffer = length (refused_text fault) ≤ length buffer
