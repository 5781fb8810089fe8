-- What a record's bytes are decoded to, or why they are refused. The place of a refusal is 0 but where the class is unknown.
use Rattle.std.specs.Prelude.{ℕ, cond, List, length, Some, None, Ok, Err, Option, Result, ◌==◌, nat_lt}
use Rattle.std.specs.Option.{ok_or}
use Rattle.faults.specs.Places.{at, fault_of, nowhere, plain}
use Rattle.faults.specs.declared.fault.Fault.{Fault}
use Rattle.faults.specs.declared.fault.Place.{Place}
use Rattle.faults.specs.declared.refusal.Refusal.TheVariants.{UnknownMark, WrongLength, UnexpectedMark, OutOfRange}
use Rattle.dayfile.specs.Marks.{mark_length, mark_of}
use Rattle.dayfile.specs.declared.heading.Heading.{Heading}
use Rattle.dayfile.specs.declared.mark.Mark.{Mark}
use Rattle.dayfile.specs.declared.mark.Mark.TheVariants as mark
use Rattle.dayfile.specs.declared.record.Position.{Position}
use Rattle.dayfile.specs.declared.record.Record.{Record}
use Rattle.dayfile.specs.declared.record.Record.TheVariants as kind
use Rattle.decoding.specs.Fields.{byte, failure_in, fine_in, heading_in, interconnection_in, position_in, price_in, reserve_in, two_bytes}

-- go on with what was accepted
abbrev pub and_then : {X Y E : Type 0} → Result X E → (X → Result Y E) → Result Y E
and_then (Ok x) next = next x
and_then (Err e) next = Err e

-- the mark, where the length is the one that it asks for
abbrev pub of_length : ℕ → Option Mark → Result Mark Fault
of_length n None = Err (plain UnknownMark)
of_length n (Some m) = cond (n == mark_length m) (Ok m) (Err (plain WrongLength))

-- the mark of a record that stands alone
abbrev pub whole_mark : List ℕ → Result Mark Fault
whole_mark bytes = cond (nat_lt (length bytes) 2) (Err (plain UnknownMark)) (of_length (length bytes) (mark_of (byte bytes 0) (byte bytes 1)))

abbrev pub heading_under : Mark → List ℕ → Result Heading Fault
heading_under mark.Day bytes = ok_or (heading_in bytes) (plain OutOfRange)
heading_under mark.Price bytes = Err (plain UnexpectedMark)
heading_under mark.Position bytes = Err (plain UnexpectedMark)
heading_under mark.Interconnection bytes = Err (plain UnexpectedMark)
heading_under mark.Reserve bytes = Err (plain UnexpectedMark)
heading_under mark.Failure bytes = Err (plain UnexpectedMark)
heading_under mark.Fine bytes = Err (plain UnexpectedMark)
heading_under mark.End bytes = Err (plain UnexpectedMark)

-- a position whose class is unknown is out of range, at its own account, node and hour
abbrev pub position_or_fault : List ℕ → Result Position Fault
position_or_fault bytes = ok_or (position_in bytes) (fault_of OutOfRange (at (byte bytes 2) (byte bytes 3) (byte bytes 4)))

abbrev pub record_under : Mark → List ℕ → Result Record Fault
record_under mark.Day bytes = Err (plain UnexpectedMark)
record_under mark.Price bytes = Ok (kind.Price (price_in bytes))
record_under mark.Position bytes = and_then (position_or_fault bytes) (λ x. Ok (kind.Position x))
record_under mark.Interconnection bytes = Ok (kind.Interconnection (interconnection_in bytes))
record_under mark.Reserve bytes = Ok (kind.Reserve (reserve_in bytes))
record_under mark.Failure bytes = Ok (kind.Failure (failure_in bytes))
record_under mark.Fine bytes = Ok (kind.Fine (fine_in bytes))
record_under mark.End bytes = Err (plain UnexpectedMark)

abbrev pub count_under : Mark → List ℕ → Result ℕ Fault
count_under mark.Day bytes = Err (plain UnexpectedMark)
count_under mark.Price bytes = Err (plain UnexpectedMark)
count_under mark.Position bytes = Err (plain UnexpectedMark)
count_under mark.Interconnection bytes = Err (plain UnexpectedMark)
count_under mark.Reserve bytes = Err (plain UnexpectedMark)
count_under mark.Failure bytes = Err (plain UnexpectedMark)
count_under mark.Fine bytes = Err (plain UnexpectedMark)
count_under mark.End bytes = Ok (two_bytes bytes 2)

-- the heading, a record that a book takes, and the count of the end record
abbrev pub decoded_heading : List ℕ → Result Heading Fault
decoded_heading bytes = and_then (whole_mark bytes) (λ m. heading_under m bytes)

abbrev pub decoded_record : List ℕ → Result Record Fault
decoded_record bytes = and_then (whole_mark bytes) (λ m. record_under m bytes)

abbrev pub decoded_end : List ℕ → Result ℕ Fault
decoded_end bytes = and_then (whole_mark bytes) (λ m. count_under m bytes)

-- the account, node and hour that a record names
abbrev pub place_of : Record → Place
place_of (kind.Price x) = at 0 x.node x.hour
place_of (kind.Position x) = at x.account x.node x.hour
place_of (kind.Interconnection x) = at 0 x.node x.hour
place_of (kind.Reserve x) = at x.account 0 x.hour
place_of (kind.Failure x) = nowhere
place_of (kind.Fine x) = at x.account 0 0
