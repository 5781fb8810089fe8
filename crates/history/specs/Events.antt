-- The calls of a history, how each ended, and what one reads off them.
use Rattle.std.specs.Prelude.{ℕ, Bool, false, List, [], ◌∷◌, ◌++◌, length, drop, Ok, Err, Result}
use Rattle.std.specs.List.{flat_map}
use Rattle.faults.specs.declared.fault.Fault.{Fault}
use Rattle.dayfile.specs.Records.{Records}
use Rattle.dayfile.specs.declared.heading.Heading.{Heading}
use Rattle.dayfile.specs.declared.record.Record.{Record}
use Rattle.book.specs.Books.{new_heading, no_records, with_record}
use Rattle.correcting.specs.Readings.{with_reading}
use Rattle.correcting.specs.declared.reading.Reading.{Reading}
use Rattle.codes.specs.declared.table.Table.{Table}
use Rattle.ledger.specs.declared.note.Note.{Note}
use Rattle.day.specs.Calls.{Parts}
use Rattle.history.specs.States.{has_table, is_closed, is_issued, is_open, is_settled}
use Rattle.history.specs.declared.states.Day.{Day}
use Rattle.history.specs.declared.steps.Outcome.{Outcome}
use Rattle.history.specs.declared.steps.Outcome.TheVariants.{Added, Done, Written}

-- A call, by what it is given besides the day and what the day's memory holds: the bytes of a record or a file, a reading,
-- a rule by its meaning. A history begins with opening or loading, into a ledger of so many entries; stating has a buffer
-- of so many bytes.
pub data Call : Type 0 where
  opening : List ℕ → ℕ → Call
  loading : List ℕ → ℕ → Call
  entering : List ℕ → Call
  closing : List ℕ → Call
  correcting : Reading → Call
  settling : Parts → Call
  sheeting : ℕ → Parts → Call
  issuing : Call
  stating : ℕ → ℕ → Call
  reopening : Call

-- A call and how it ended. An accepted one has what it took (the heading, the records of a file, the record) or gave (the
-- table of a sheet, the notes of an issue, the text of a statement); a refused one has the fault.
pub data Event : Type 0 where
  opened : List ℕ → ℕ → Heading → Event
  loaded : List ℕ → ℕ → Records → Event
  entered : List ℕ → Record → Event
  closed : List ℕ → Event
  corrected : Reading → Event
  settled : Parts → Event
  sheeted : ℕ → Parts → Table → Event
  issued : List Note → Event
  stated : ℕ → ℕ → List ℕ → Event
  reopened : Event
  refused : Call → Fault → Event

abbrev pub call_of : Event → Call
call_of (opened bytes entries heading) = opening bytes entries
call_of (loaded file entries records) = loading file entries
call_of (entered bytes item) = entering bytes
call_of (closed bytes) = closing bytes
call_of (corrected reading) = correcting reading
call_of (settled parts) = settling parts
call_of (sheeted hour parts page) = sheeting hour parts
call_of (issued notes) = issuing
call_of (stated number room text) = stating number room
call_of reopened = reopening
call_of (refused call fault) = call

-- which calls the state of a day takes
abbrev pub takes : Day → Call → Bool
takes day (opening bytes entries) = false
takes day (loading file entries) = false
takes day (entering bytes) = is_open day
takes day (closing bytes) = is_open day
takes day (correcting reading) = is_closed day
takes day (settling parts) = is_closed day
takes day (sheeting hour parts) = has_table day
takes day issuing = is_settled day
takes day (stating number room) = is_issued day
takes day reopening = is_issued day

-- what a call answers: what it did, or the fault
abbrev pub Answer : Type 0
Answer = Result Outcome Fault

-- what the call answered
abbrev pub answer_of : Event → Answer
answer_of (opened bytes entries heading) = Ok Done
answer_of (loaded file entries records) = Ok Done
answer_of (entered bytes item) = Ok Done
answer_of (closed bytes) = Ok Done
answer_of (corrected reading) = Ok Done
answer_of (settled parts) = Ok Done
answer_of (sheeted hour parts page) = Ok Done
answer_of (issued notes) = Ok (Added (length notes))
answer_of (stated number room text) = Ok (Written (length text))
answer_of reopened = Ok Done
answer_of (refused call fault) = Err fault

-- the page and the buffer that are lent to sheets and statements
pub record Lent : Type 0 where
  pub page : Table
  pub buffer : List ℕ

abbrev pub lent : Table → List ℕ → Lent
lent page buffer = record { page = page; buffer = buffer }

-- what a call leaves of them: a sheet fills the page, a statement the front of the buffer, every other call leaves both
abbrev pub lent_after : Event → Lent → Lent
lent_after (opened bytes entries heading) l = l
lent_after (loaded file entries records) l = l
lent_after (entered bytes item) l = l
lent_after (closed bytes) l = l
lent_after (corrected reading) l = l
lent_after (settled parts) l = l
lent_after (sheeted hour parts page) l = lent page l.buffer
lent_after (issued notes) l = l
lent_after (stated number room text) l = lent l.page (text ++ drop (length text) l.buffer)
lent_after reopened l = l
lent_after (refused call fault) l = l

-- The events of a history are listed newest first.

-- the calls and the answers, the first first
abbrev pub calls_of : List Event → List Call
calls_of [] = []
calls_of (event ∷ events) = calls_of events ++ (call_of event ∷ [])

abbrev pub answers_of : List Event → List Answer
answers_of [] = []
answers_of (event ∷ events) = answers_of events ++ (answer_of event ∷ [])

abbrev pub lent_in : List Event → Lent → Lent
lent_in [] l = l
lent_in (event ∷ events) l = lent_after event (lent_in events l)

-- what a settlement was made of: a rule, by its meaning, and records
pub data Settlement : Type 0 where
  none_yet : Settlement
  settled_by : Parts → Records → Settlement

-- What one reads off a history: its records, those accepted, with each reading as the last accepted correction left it; the
-- rule and the records of the last settle accepted; those of the last issue, which are those of the last settle accepted
-- before it; and the notes that each issue added, the first issue first.
pub record Summary : Type 0 where
  pub records : Records
  pub settlement : Settlement
  pub last_issue : Settlement
  pub issues : List (List Note)

-- the notes of all issues
abbrev pub all_notes : Summary → List Note
all_notes s = flat_map (λ notes. notes) s.issues

abbrev pub begun : Records → Summary
begun r = record { records = r; settlement = none_yet; last_issue = none_yet; issues = [] }

abbrev pub with_records : Summary → Records → Summary
with_records s r = record { records = r; settlement = s.settlement; last_issue = s.last_issue; issues = s.issues }

-- one event more
abbrev pub summed : Event → Summary → Summary
summed (opened bytes entries heading) s = begun (no_records heading)
summed (loaded file entries records) s = begun records
summed (entered bytes item) s = with_records s (with_record s.records item)
summed (closed bytes) s = s
summed (corrected reading) s = with_records s (with_reading s.records reading)
summed (settled parts) s = record { records = s.records; settlement = settled_by parts s.records; last_issue = s.last_issue; issues = s.issues }
summed (sheeted hour parts page) s = s
summed (issued notes) s = record { records = s.records; settlement = s.settlement; last_issue = s.settlement; issues = s.issues ++ (notes ∷ []) }
summed (stated number room text) s = s
summed reopened s = s
summed (refused call fault) s = s

-- the summary of a history; before its first event there are no records
abbrev pub summary : List Event → Summary
summary [] = begun (no_records new_heading)
summary (event ∷ events) = summed event (summary events)
