-- A day's memory, and when it is the day's.
use Rattle.std.specs.Prelude.{ℕ, Bool, ◌&&◌, List}
use Rattle.book.specs.Soundness.{records_of_day}
use Rattle.codes.specs.Cells.{empty_cells}
use Rattle.codes.specs.declared.table.Table.{Table}
use Rattle.dayfile.specs.Records.{Records}
use Rattle.ledger.specs.Notes.{cleared, sound_notes, within_limit}
use Rattle.ledger.specs.declared.note.Note.{Note}
use Rattle.day.specs.declared.state.Numbers.{Numbers}

-- what the book holds, the day table and the ledger
pub record Memory : Type 0 where
  pub records : Records
  pub table : Table
  pub ledger : List Note

abbrev pub memory : Records → Table → List Note → Memory
memory records table ledger = record { records = records; table = table; ledger = ledger }

-- no amount in any cell
abbrev pub empty_table : Table
empty_table = record { cells = empty_cells }

-- these records, no amount in any cell, and no note in any entry of the ledger
abbrev pub begun_with : Records → List Note → Memory
begun_with records ledger = memory records empty_table (cleared ledger)

-- the book has the day's heading and counts and holds what could have been entered, no cell passes the limit, and the
-- notes are sound ones of so many issues
abbrev pub sound_memory : Numbers → ℕ → Memory → Bool
sound_memory numbers issues m =
    records_of_day numbers.heading numbers.counts m.records
    && (within_limit m.table && sound_notes m.ledger numbers.notes issues)
