-- What is printed of a day file: the statement of its first issue under the running rule, or the line of its refusal.
use Rattle.std.specs.Prelude.{ℕ, List, Some, None, Ok, Err, Option, Result}
use Rattle.codes.specs.Cells.{cell_count}
use Rattle.dayfile.specs.Records.{Records}
use Rattle.faults.specs.declared.fault.Fault.{Fault}
use Rattle.ledger.specs.Issues.{notes_of}
use Rattle.ledger.specs.declared.note.Note.{Note}
use Rattle.loading.specs.Loading.{file_records}
use Rattle.settlement.specs.Days.{day_cell, settle_refusal}
use Rattle.sharing.specs.Running.{running}
use Rattle.statement.specs.Statements.{statement_room, statement_text}
use Rattle.text.specs.Lines.{refused_text}

-- the notes of the first issue: one for each cell of the day that is not 0
abbrev pub first_notes : Records → List Note
first_notes r = notes_of 0 (day_cell running r)

abbrev pub settled_text : Records → Option Fault → List ℕ
settled_text r None = statement_text r.heading (first_notes r) 0
settled_text r (Some fault) = refused_text fault

abbrev pub loaded_text : Result Records Fault → List ℕ
loaded_text (Ok r) = settled_text r (settle_refusal r)
loaded_text (Err fault) = refused_text fault

abbrev pub printed_text : List ℕ → List ℕ
printed_text file = loaded_text (file_records file)

-- room that every printed text fits: a statement with a note for each cell
abbrev pub text_room : ℕ
text_room = statement_room cell_count
