-- The reading of a position, and its correction.
use Rattle.std.specs.Prelude.{ℕ, Bool, cond, not, ◌&&◌, List, is_some, Some, None, Ok, Err, Option, Result, ◌==◌, nat_le, slice_index_or, slice_set}
use Rattle.faults.specs.Places.{at}
use Rattle.faults.specs.declared.fault.Fault.{Fault}
use Rattle.faults.specs.declared.fault.Place.{Place}
use Rattle.faults.specs.declared.refusal.Refusal.{Refusal}
use Rattle.faults.specs.declared.refusal.Refusal.TheVariants.{OutOfRange, AboveHeading, NoPosition}
use Rattle.dayfile.specs.Classes.{class_number, class_of}
use Rattle.dayfile.specs.Records.{Records}
use Rattle.dayfile.specs.declared.heading.Heading.{Heading}
use Rattle.dayfile.specs.declared.record.Class.{Class}
use Rattle.dayfile.specs.declared.record.Class.TheVariants.{Generation}
use Rattle.dayfile.specs.declared.record.Position.{Position}
use Rattle.rows.specs.Kinds.{energy_in_range}
use Rattle.rows.specs.Tables.{first_place}
use Rattle.book.specs.Books.{unless}
use Rattle.correcting.specs.declared.reading.Reading.{Reading}

-- is this the position of the class that the account has at the node in the hour?
abbrev pub is_position_of : ℕ → ℕ → ℕ → Class → Position → Bool
is_position_of account node hour class p =
    (account == p.account) && (node == p.node && (hour == p.hour && class_number class == class_number p.class))

abbrev pub read_in_class : List Position → Reading → Option Class → Option ℕ
read_in_class positions reading None = None
read_in_class positions reading (Some class) =
    first_place (is_position_of reading.account reading.node reading.hour class) positions

-- where the position stands that a reading is of
abbrev pub read_position : List Position → Reading → Option ℕ
read_position positions reading = read_in_class positions reading (class_of reading.class)

-- the position with another reading
abbrev pub reread : Position → ℕ → Position
reread p kwh = record {
  account = p.account;
  node = p.node;
  hour = p.hour;
  class = p.class;
  day_ahead = p.day_ahead;
  real_time = kwh;
}

-- what stands past the end of a list of positions
abbrev pub no_position : Position
no_position = record { account = 0; node = 0; hour = 0; class = Generation; day_ahead = 0; real_time = 0 }

-- the positions with the reading of one of them replaced, and every other as it was
abbrev pub reread_at : List Position → Option ℕ → ℕ → List Position
reread_at positions None kwh = positions
reread_at positions (Some i) kwh = slice_set positions i (reread (slice_index_or positions i no_position) kwh)

abbrev pub reading_place : Reading → Place
reading_place reading = at reading.account reading.node reading.hour

abbrev pub reading_in_range : Reading → Bool
reading_in_range reading =
    nat_le 1 reading.account && (nat_le 1 reading.node && (nat_le 1 reading.hour
    && (is_some (class_of reading.class) && energy_in_range reading.real_time)))

abbrev pub reading_listed : Heading → Reading → Bool
reading_listed heading reading =
    nat_le reading.account heading.accounts && (nat_le reading.node heading.nodes && nat_le reading.hour heading.hours)

-- the first of two reasons
abbrev pub first_reason : Option Refusal → Option Refusal → Option Refusal
first_reason (Some reason) other = Some reason
first_reason None other = other

-- what the heading alone has against a reading
abbrev pub reading_refusal : Heading → Reading → Option Refusal
reading_refusal heading reading =
    cond (not (reading_in_range reading)) (Some OutOfRange)
    (cond (not (reading_listed heading reading)) (Some AboveHeading) None)

-- why a reading cannot be corrected, if so
abbrev pub correction_refusal : Records → Reading → Option Refusal
correction_refusal b reading =
    first_reason (reading_refusal b.heading reading)
    (cond (is_some (read_position b.positions reading)) None (Some NoPosition))

-- the reading if it can be put in the place of the one held, or why not
abbrev pub correction : Records → Reading → Result Reading Fault
correction b reading = unless (correction_refusal b reading) (reading_place reading) reading

-- the records with the reading in place of the one held
abbrev pub with_reading : Records → Reading → Records
with_reading b reading = record {
  heading = b.heading;
  prices = b.prices;
  positions = reread_at b.positions (read_position b.positions reading) reading.real_time;
  interconnections = b.interconnections;
  reserves = b.reserves;
  failures = b.failures;
  fines = b.fines;
}

-- the records after a reading was corrected or refused
abbrev pub corrected : Records → Result Reading Fault → Records
corrected b (Ok reading) = with_reading b reading
corrected b (Err f) = b
