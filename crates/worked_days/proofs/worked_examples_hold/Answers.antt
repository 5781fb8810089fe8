use Rattle.std.proofs.Common.{refl}
use Rattle.std.specs.Fmt.{digits}
use Rattle.ledger.specs.Issues.{notes_of, row_notes}
use Rattle.loading.specs.Loading.{records_from}
use Rattle.statement.specs.Lines.{amount_line}
use Rattle.statement.specs.Statements.{first_line, last_line, statement_text}
use Rattle.worked_days.specs.Worked.{worked_examples}
use Rattle.worked_days.proofs.Tests.{each_row}
use Rattle.worked_days.proofs.worked_examples_hold.Goals as goal

-- the checker computes the test of the whole table
pub returns : goal.returns
unfolding digits notes_of row_notes records_from amount_line first_line last_line statement_text
returns c = each_row worked_examples refl
