-- A file loaded into a book: its first record opens the book, each record after it is entered, and the first end record closes it.
use Rattle.std.specs.Prelude.{ℕ, zero, suc, ◌+◌, Bool, true, false, cond, List, length, is_ok, Ok, Err, Result, ◌==◌}
use Rattle.faults.specs.Places.{plain, reading_at}
use Rattle.faults.specs.declared.fault.Fault.{Fault}
use Rattle.faults.specs.declared.refusal.Refusal.TheVariants.{UnknownMark, WrongCount}
use Rattle.dayfile.specs.Records.{Records}
use Rattle.dayfile.specs.declared.heading.Heading.{Heading}
use Rattle.dayfile.specs.declared.record.Record.{Record}
use Rattle.decoding.specs.Decoded.{and_then, decoded_end, decoded_heading}
use Rattle.cutting.specs.Cuts.{cut_at, past}
use Rattle.book.specs.Books.{admitted, no_records, with_record}
use Rattle.closing.specs.Prices.{closing}

-- what comes of one record: the load goes on at an offset with these records, or is over
pub data Step : Type 0 where
  goes_on : ℕ → Records → Step
  is_over : Result Records Fault → Step

-- a fault is at the offset of the record that was reached
abbrev pub at_offset : {X : Type 0} → ℕ → Result X Fault → Result X Fault
at_offset offset (Ok x) = Ok x
at_offset offset (Err f) = Err (reading_at offset f)

-- a record was entered or refused
abbrev pub after_entry : ℕ → Records → Result Record Fault → Step
after_entry next b (Ok x) = goes_on next (with_record b x)
after_entry next b (Err f) = is_over (Err f)

-- the end record closes the book, unless bytes follow it
abbrev pub after_end : Bool → Records → List ℕ → Result Records Fault
after_end last b part = and_then (cond last (closing b part) (Err (plain WrongCount))) (λ _. Ok b)

-- the end record, or one to be entered
abbrev pub after_record : Bool → ℕ → Records → List ℕ → Step
after_record last offset b part =
    cond (is_ok (decoded_end part))
    (is_over (at_offset offset (after_end last b part)))
    (after_entry (offset + length part) b (at_offset offset (admitted b part)))

abbrev pub after_cut : List ℕ → ℕ → Records → Result (List ℕ) Fault → Step
after_cut file offset b (Ok part) = after_record (offset + length part == length file) offset b part
after_cut file offset b (Err f) = is_over (Err f)

-- the record at the offset
abbrev pub step : List ℕ → ℕ → Records → Step
step file offset b = after_cut file offset b (cut_at file offset)

abbrev pub follow : (ℕ → Records → Result Records Fault) → Step → Result Records Fault
follow next (goes_on offset b) = next offset b
follow next (is_over answer) = answer

-- the records from an offset on, up to the end record, in at most n turns; no load comes to 0 turns
unfoldable pub records_from : ℕ → List ℕ → ℕ → Records → Result Records Fault
records_from zero file offset b = Err (reading_at offset (plain UnknownMark))
records_from (suc n) file offset b = follow (records_from n file) (step file offset b)

-- all records from an offset on; no file has more records than bytes
abbrev pub records_ahead : List ℕ → ℕ → Records → Result Records Fault
records_ahead file offset b = records_from (suc (length file)) file offset b

-- the heading that a file begins with
abbrev pub opening : List ℕ → Result Heading Fault
opening file = and_then (cut_at file 0) decoded_heading

-- the records of a file after its heading, or the first fault among them
abbrev pub records_under : List ℕ → Heading → Result Records Fault
records_under file heading = records_ahead file (past 0 (cut_at file 0)) (no_records heading)

-- the records of a file, or its first fault
abbrev pub file_records : List ℕ → Result Records Fault
file_records file = and_then (opening file) (records_under file)

-- the records that were read, or none after a fault
abbrev pub records_or_none : Heading → Result Records Fault → Records
records_or_none heading (Ok b) = b
records_or_none heading (Err f) = no_records heading

-- what a load leaves: the records of the file, or none, under the file's heading, or else none under the one held before
abbrev pub left_under : Heading → List ℕ → Result Heading Fault → Records
left_under old file (Ok heading) = records_or_none heading (records_under file heading)
left_under old file (Err f) = no_records old

abbrev pub load_leaves : Records → List ℕ → Records
load_leaves b file = left_under b.heading file (opening file)

-- the answer to a load, with the records after it
abbrev pub answered : Result (Unit {0}) Fault → Records → Result Records Fault
answered (Ok _) b = Ok b
answered (Err f) b = Err f

-- what comes of one record, where a load goes on after `true` with the offset and the records after it
abbrev pub turned : Result Bool Fault → ℕ → Records → Step
turned (Ok true) offset b = goes_on offset b
turned (Ok false) offset b = is_over (Ok b)
turned (Err f) offset b = is_over (Err f)
