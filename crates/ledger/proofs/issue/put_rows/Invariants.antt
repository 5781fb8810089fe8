use Rattle.std.proofs.Common.{take}
use Rattle.std.specs.List.{flat_map}
use Rattle.codes.specs.Cells.{cell}
use Rattle.text.specs.Written.{Puts}
use Rattle.ledger.specs.Steps.{rows_notes}
use Rattle.ledger.proofs.issue.put_rows.Given as goal

abbrev pub invariant-loop-row : goal.invariant-loop-row
invariant-loop-row l = Puts l.initial.out l.out (flat_map (rows_notes l.issue (cell l.rest)) (take l.row-index l.rows))
