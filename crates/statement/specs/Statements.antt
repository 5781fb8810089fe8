-- The text of an issue's statement.
use Rattle.std.specs.Prelude.{ℕ, ◌+◌, ◌*◌, ◌/◌, ◌%◌, cond, filter, List, [], ◌∷◌, ◌++◌, length, Err, codes, Result, ◌==◌, nat_lt}
use Rattle.std.specs.List.{flat_map}
use Rattle.std.specs.Option.{ok_or}
use Rattle.dayfile.specs.declared.heading.Heading.{Heading}
use Rattle.faults.specs.Places.{plain}
use Rattle.faults.specs.declared.fault.Fault.{Fault}
use Rattle.faults.specs.declared.refusal.Refusal.TheVariants.{BufferTooShort, OutOfRange}
use Rattle.ledger.specs.declared.note.Note.{Note}
use Rattle.text.specs.Lines.{line}
use Rattle.text.specs.Written.{left_if_fits, length_if_fits}
use Rattle.statement.specs.Lines.{note_line}

-- a decimal digit of a number, by its unit: 1, 10, 100 or 1,000
abbrev pub digit_of : ℕ → ℕ → ℕ
digit_of n unit = 48 + n / unit % 10

-- DAY and the date: the year in four digits, month and day in two, parted by hyphens (byte 45)
abbrev pub day_name : Heading → List ℕ
day_name heading =
    codes "DAY " ++ (digit_of heading.year 1000 ∷ digit_of heading.year 100 ∷ digit_of heading.year 10 ∷ digit_of heading.year 1
    ∷ 45 ∷ digit_of heading.month 10 ∷ digit_of heading.month 1 ∷ 45 ∷ digit_of heading.day 10 ∷ digit_of heading.day 1 ∷ [])

-- the notes of an issue, in the order of the ledger
abbrev pub of_issue : ℕ → List Note → List Note
of_issue number notes = filter (λ n. n.issue == number) notes

-- DAY, date, hours and issue
unfoldable pub first_line : Heading → ℕ → List ℕ
first_line heading number = line (day_name heading) (heading.hours ∷ number ∷ [])

-- END and how many notes there are
unfoldable pub last_line : ℕ → List ℕ
last_line count = line (codes "END") (count ∷ [])

-- the first line, a line for each note of the issue, and the last line
unfoldable pub statement_text : Heading → List Note → ℕ → List ℕ
statement_text heading notes number = first_line heading number ++ (flat_map note_line (of_issue number notes) ++ last_line (length (of_issue number notes)))

-- what a statement answers: the length of the text, or that the issue was not made or the buffer is too short
abbrev pub statement_answer : Heading → List Note → ℕ → ℕ → List ℕ → Result ℕ Fault
statement_answer heading notes issues number buffer =
    cond (nat_lt number issues) (ok_or (length_if_fits (statement_text heading notes number) buffer) (plain BufferTooShort)) (Err (plain OutOfRange))

-- and what it leaves in the buffer: bytes beyond the text stay
abbrev pub statement_leaves : Heading → List Note → ℕ → ℕ → List ℕ → List ℕ
statement_leaves heading notes issues number buffer = cond (nat_lt number issues) (left_if_fits (statement_text heading notes number) buffer) buffer

-- room that a statement always fits, by how many notes the ledger has: the first line has at most 22 bytes, the line of
-- a note 27, the last line 13
abbrev pub statement_room : ℕ → ℕ
statement_room count = 35 + 27 * count
