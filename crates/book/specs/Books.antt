-- What a book holds, and what the calls make of it.
use Rattle.std.specs.Prelude.{ℕ, ◌+◌, List, [], ◌∷◌, ◌++◌, length, Some, None, Ok, Err, vec_items, Option, Result}
use Rattle.faults.specs.Places.{fault_of}
use Rattle.faults.specs.declared.fault.Fault.{Fault}
use Rattle.faults.specs.declared.fault.Place.{Place}
use Rattle.faults.specs.declared.refusal.Refusal.{Refusal}
use Rattle.dayfile.specs.Records.{Records}
use Rattle.dayfile.specs.declared.heading.Heading.{Heading}
use Rattle.dayfile.specs.declared.record.Record.{Record}
use Rattle.dayfile.specs.declared.record.Record.TheVariants.{Price, Position, Interconnection, Reserve, Failure, Fine}
use Rattle.decoding.specs.Decoded.{and_then, decoded_record, place_of}
use Rattle.rows.specs.Kinds.{price_terms, position_terms, interconnection_terms, reserve_terms, failure_terms, fine_terms}
use Rattle.rows.specs.Tables.{row_refusal}
use Rattle.book.specs.declared.book.Book.{Book}
use Rattle.book.specs.declared.counts.Counts.{Counts}

abbrev pub held : Book → Records
held book = record {
  heading = book.heading;
  prices = vec_items book.prices;
  positions = vec_items book.positions;
  interconnections = vec_items book.interconnections;
  reserves = vec_items book.reserves;
  failures = vec_items book.failures;
  fines = vec_items book.fines;
}

-- a heading, and no record of any kind
abbrev pub no_records : Heading → Records
no_records heading = record {
  heading = heading;
  prices = [];
  positions = [];
  interconnections = [];
  reserves = [];
  failures = [];
  fines = [];
}

-- what a new book has for a heading: 2016-01-01, 24 hours, one account, one node
abbrev pub new_heading : Heading
new_heading = record { year = 2016; month = 1; day = 1; hours = 24; accounts = 1; nodes = 1; interconnections = 0; real = tt }

-- how many records of each kind there are
abbrev pub counts_of : Records → Counts
counts_of b = record {
  prices = length b.prices;
  positions = length b.positions;
  interconnections = length b.interconnections;
  reserves = length b.reserves;
  failures = length b.failures;
  fines = length b.fines;
}

-- and of all kinds together
abbrev pub record_count : Records → ℕ
record_count b =
    length b.prices + (length b.positions + (length b.interconnections
    + (length b.reserves + (length b.failures + length b.fines))))

-- why a record cannot be entered, if so
abbrev pub record_refusal : Records → Record → Option Refusal
record_refusal b (Price p) = row_refusal price_terms b.heading b.prices p
record_refusal b (Position p) = row_refusal position_terms b.heading b.positions p
record_refusal b (Interconnection p) = row_refusal interconnection_terms b.heading b.interconnections p
record_refusal b (Reserve p) = row_refusal reserve_terms b.heading b.reserves p
record_refusal b (Failure p) = row_refusal failure_terms b.heading b.failures p
record_refusal b (Fine p) = row_refusal fine_terms b.heading b.fines p

-- the records with one more, the last of its kind
abbrev pub with_record : Records → Record → Records
with_record b (Price p) = record { heading = b.heading; prices = b.prices ++ p ∷ []; positions = b.positions; interconnections = b.interconnections; reserves = b.reserves; failures = b.failures; fines = b.fines }
with_record b (Position p) = record { heading = b.heading; prices = b.prices; positions = b.positions ++ p ∷ []; interconnections = b.interconnections; reserves = b.reserves; failures = b.failures; fines = b.fines }
with_record b (Interconnection p) = record { heading = b.heading; prices = b.prices; positions = b.positions; interconnections = b.interconnections ++ p ∷ []; reserves = b.reserves; failures = b.failures; fines = b.fines }
with_record b (Reserve p) = record { heading = b.heading; prices = b.prices; positions = b.positions; interconnections = b.interconnections; reserves = b.reserves ++ p ∷ []; failures = b.failures; fines = b.fines }
with_record b (Failure p) = record { heading = b.heading; prices = b.prices; positions = b.positions; interconnections = b.interconnections; reserves = b.reserves; failures = b.failures ++ p ∷ []; fines = b.fines }
with_record b (Fine p) = record { heading = b.heading; prices = b.prices; positions = b.positions; interconnections = b.interconnections; reserves = b.reserves; failures = b.failures; fines = b.fines ++ p ∷ [] }

-- a value for which a reason was looked for: the value where there is none, or the fault at its place
abbrev pub unless : {X : Type 0} → Option Refusal → Place → X → Result X Fault
unless None place x = Ok x
unless (Some reason) place x = Err (fault_of reason place)

-- the record if it can be entered, or why not
abbrev pub admission : Records → Record → Result Record Fault
admission b x = unless (record_refusal b x) (place_of x) x

-- what a call answers that found this
abbrev pub answer : {X : Type 0} → Result X Fault → Result (Unit {0}) Fault
answer (Ok x) = Ok tt
answer (Err f) = Err f

-- the record that the bytes say if it can be entered, or the first fault
abbrev pub admitted : Records → List ℕ → Result Record Fault
admitted b bytes = and_then (decoded_record bytes) (admission b)

-- the records after a record was entered or refused
abbrev pub entered : Records → Result Record Fault → Records
entered b (Ok x) = with_record b x
entered b (Err f) = b

-- the records after a heading was accepted or refused
abbrev pub opened : Records → Result Heading Fault → Records
opened b (Ok heading) = no_records heading
opened b (Err f) = b
