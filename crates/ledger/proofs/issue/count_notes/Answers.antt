use Rattle.std.proofs.Common.{◌∙◌}
use Rattle.codes.specs.Cells.{cell}
use Rattle.ledger.proofs.Adding.{length_notes}
use Rattle.ledger.proofs.issue.count_notes.Goals as goal

pub returns : goal.returns
returns c = λ number. c.count_rows.ensures ∙ length_notes number (cell c.args.rest.now)
