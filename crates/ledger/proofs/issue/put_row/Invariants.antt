use Rattle.std.proofs.Common.{take}
use Rattle.codes.specs.Cells.{cell}
use Rattle.text.specs.Written.{Puts}
use Rattle.ledger.specs.Issues.{row_notes}
use Rattle.ledger.proofs.issue.put_row.Given as goal

abbrev pub invariant-loop-party : goal.invariant-loop-party
invariant-loop-party l = Puts l.initial.out l.out (row_notes l.issue (cell l.rest) (take l.party-index l.parties) l.code)
