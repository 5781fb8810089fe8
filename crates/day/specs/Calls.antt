-- What each call comes to, for every day, memory and argument: why it is refused, if so; what it answers; and what memory
-- then holds.
use Rattle.std.specs.Prelude.{ℕ, ◌+◌, Bool, true, false, cond, List, length, take, Some, None, Ok, Err, Option, Result}
use Rattle.faults.specs.Places.{plain}
use Rattle.faults.specs.declared.fault.Fault.{Fault}
use Rattle.faults.specs.declared.refusal.Refusal.TheVariants.{NoIssueLeft, UnsoundMemory}
use Rattle.decoding.specs.Decoded.{decoded_heading}
use Rattle.dayfile.specs.Records.{Records}
use Rattle.dayfile.specs.declared.heading.Heading.{Heading}
use Rattle.book.specs.Books.{admitted, counts_of, entered, no_records}
use Rattle.closing.specs.Prices.{closing}
use Rattle.correcting.specs.Readings.{corrected, correction}
use Rattle.correcting.specs.declared.reading.Reading.{Reading}
use Rattle.codes.specs.declared.table.Table.{Table}
use Rattle.ledger.specs.Issues.{issue_answer, issue_leaves, new_notes}
use Rattle.ledger.specs.declared.note.Note.{Note}
use Rattle.loading.specs.Loading.{file_records, load_leaves}
use Rattle.settlement.specs.Days.{day_cell, settle_refusal, sheet_refusal}
use Rattle.settlement.specs.Sheets.{sheet}
use Rattle.statement.specs.Statements.{statement_answer, statement_leaves, statement_text}
use Rattle.day.specs.IssueNumbers.{following, issue_number}
use Rattle.day.specs.Memory.{Memory, begun_with, memory, sound_memory}
use Rattle.day.specs.States.{Closed, Issued, Open, Settled, day_with}
use Rattle.day.specs.Tables.{table_of}
use Rattle.day.specs.declared.issue_number.IssueNumber.{IssueNumber}
use Rattle.day.specs.declared.issue_number.IssueNumber.TheVariants.{Initial}
use Rattle.day.specs.declared.refused.Refused.{Refused}
use Rattle.day.specs.declared.state.Numbers.{Numbers}

-- the meaning of a rule: an amount and weights, to parts
abbrev pub Parts : Type 0
Parts = ℕ → List ℕ → List ℕ

-- A refused call gives back the day that it got, with the fault, and leaves what it could write as it was. An accepted one
-- gives the next day, and leaves the new.
abbrev pub given : {D E X : Type 0} → Option Fault → D → X → E → X → Result E (Refused D) × X
given (Some fault) day before next after = (Err (record { day = day; fault = fault }), before)
given None day before next after = (Ok next, after)

abbrev pub fault_in : {X : Type 0} → Result X Fault → Option Fault
fault_in (Ok x) = None
fault_in (Err fault) = Some fault

-- memory that is not the day's is refused before anything else
abbrev pub in_sound : Numbers → ℕ → Memory → Option Fault → Option Fault
in_sound numbers issues m other = cond (sound_memory numbers issues m) other (Some (plain UnsoundMemory))

-- how many issues were made: those before the next one, or, on an issued day, the last one too
abbrev pub made_before : Numbers → ℕ
made_before numbers = issue_number numbers.issue

abbrev pub made_with : Numbers → ℕ
made_with numbers = issue_number numbers.issue + 1

-- the one or the other, by the state
abbrev pub issues_in : Bool → Numbers → ℕ
issues_in false = made_before
issues_in true = made_with

-- a day with these records, and no note
abbrev pub first_numbers : Records → Numbers
first_numbers r = record { heading = r.heading; counts = counts_of r; notes = 0; issue = Initial }

-- open

abbrev pub opened_with : Memory → Result Heading Fault → Result Open Fault × Memory
opened_with m (Ok heading) = (Ok (day_with (first_numbers (no_records heading))), begun_with (no_records heading) m.ledger)
opened_with m (Err fault) = (Err fault, m)

abbrev pub open_gives : Memory → List ℕ → Result Open Fault × Memory
open_gives m bytes = opened_with m (decoded_heading bytes)

-- load

abbrev pub load_answer : Result Records Fault → Result Closed Fault
load_answer (Ok r) = Ok (day_with (first_numbers r))
load_answer (Err fault) = Err fault

abbrev pub load_gives : Memory → List ℕ → Result Closed Fault × Memory
load_gives m file = (load_answer (file_records file), begun_with (load_leaves m.records file) m.ledger)

-- enter

abbrev pub enter_refusal : Open → Memory → List ℕ → Option Fault
enter_refusal day m bytes = in_sound day.numbers (made_before day.numbers) m (fault_in (admitted m.records bytes))

-- the numbers of a day that has these records
abbrev pub with_counts : Numbers → Records → Numbers
with_counts numbers r = record numbers { counts = counts_of r }

-- the records with the one that the bytes say
abbrev pub records_with : Records → List ℕ → Records
records_with r bytes = entered r (admitted r bytes)

abbrev pub enter_gives : Open → Memory → List ℕ → Result Open (Refused Open) × Memory
enter_gives day m bytes =
    given (enter_refusal day m bytes) day m
    (day_with (with_counts day.numbers (records_with m.records bytes)))
    (memory (records_with m.records bytes) m.table m.ledger)

-- close

abbrev pub close_refusal : Open → Memory → List ℕ → Option Fault
close_refusal day m bytes = in_sound day.numbers (made_before day.numbers) m (fault_in (closing m.records bytes))

abbrev pub close_gives : Open → Memory → List ℕ → Result Closed (Refused Open) × Memory
close_gives day m bytes = given (close_refusal day m bytes) day m (day_with day.numbers) m

-- correct

abbrev pub correct_refusal : Closed → Memory → Reading → Option Fault
correct_refusal day m reading = in_sound day.numbers (made_before day.numbers) m (fault_in (correction m.records reading))

-- the records with the reading in place of the one held
abbrev pub records_read : Records → Reading → Records
records_read r reading = corrected r (correction r reading)

abbrev pub correct_gives : Closed → Memory → Reading → Result Closed (Refused Closed) × Memory
correct_gives day m reading = given (correct_refusal day m reading) day m day (memory (records_read m.records reading) m.table m.ledger)

-- settle

abbrev pub settle_call_refusal : Closed → Memory → Option Fault
settle_call_refusal day m = in_sound day.numbers (made_before day.numbers) m (settle_refusal m.records)

abbrev pub settle_gives : Parts → Closed → Memory → Result Settled (Refused Closed) × Memory
settle_gives parts day m =
    given (settle_call_refusal day m) day m (day_with day.numbers)
    (memory m.records (table_of (day_cell parts m.records)) m.ledger)

-- sheet, of a settled or an issued day with these numbers and so many issues; the page is the table that it fills

abbrev pub sheet_call_refusal : Numbers → ℕ → Memory → ℕ → Option Fault
sheet_call_refusal numbers issues m hour = in_sound numbers issues m (sheet_refusal m.records hour)

abbrev pub sheet_gives : {D : Type 0} → Parts → D → Numbers → ℕ → Memory → ℕ → Table → Result D (Refused D) × Table
sheet_gives parts day numbers issues m hour page =
    given (sheet_call_refusal numbers issues m hour) day page day (table_of (sheet parts m.records hour))

-- issue, which also answers how many notes it added

-- the notes that an issue of this day adds
abbrev pub notes_to_add : Numbers → Memory → List Note
notes_to_add numbers m = new_notes m.ledger numbers.notes (issue_number numbers.issue) m.table

abbrev pub issue_refusal : Settled → Memory → Option Fault
issue_refusal day m =
    in_sound day.numbers (made_before day.numbers) m
    (fault_in (issue_answer m.ledger day.numbers.notes (notes_to_add day.numbers m)))

abbrev pub with_notes : Numbers → ℕ → Numbers
with_notes numbers added = record numbers { notes = numbers.notes + added }

abbrev pub issue_gives : Settled → Memory → Result (Issued × ℕ) (Refused Settled) × Memory
issue_gives day m =
    given (issue_refusal day m) day m
    (day_with (with_notes day.numbers (length (notes_to_add day.numbers m))), length (notes_to_add day.numbers m))
    (memory m.records m.table (issue_leaves m.ledger day.numbers.notes (notes_to_add day.numbers m)))

-- statement, which also answers the length of the text

abbrev pub notes_in : Numbers → Memory → List Note
notes_in numbers m = take numbers.notes m.ledger

abbrev pub statement_refusal : Issued → Memory → ℕ → List ℕ → Option Fault
statement_refusal day m number buffer =
    in_sound day.numbers (made_with day.numbers) m
    (fault_in (statement_answer day.numbers.heading (notes_in day.numbers m) (made_with day.numbers) number buffer))

abbrev pub statement_gives : Issued → Memory → ℕ → List ℕ → Result (Issued × ℕ) (Refused Issued) × List ℕ
statement_gives day m number buffer =
    given (statement_refusal day m number buffer) day buffer
    (day, length (statement_text day.numbers.heading (notes_in day.numbers m) number))
    (statement_leaves day.numbers.heading (notes_in day.numbers m) (made_with day.numbers) number buffer)

-- reopen

abbrev pub reopened_at : Issued → Memory → Option IssueNumber → Result Closed (Refused Issued) × Memory
reopened_at day m (Some next) =
    (Ok (day_with (record day.numbers { issue = next })), m)
reopened_at day m None = (Err (record { day = day; fault = plain NoIssueLeft }), m)

abbrev pub reopen_gives : Issued → Memory → Result Closed (Refused Issued) × Memory
reopen_gives day m =
    cond (sound_memory day.numbers (made_with day.numbers) m) (reopened_at day m (following day.numbers.issue))
    (Err (record { day = day; fault = plain UnsoundMemory }), m)
