use Rattle.std.proofs.Common.{take}
use Rattle.ledger.specs.Issues.{noted}
use Rattle.ledger.specs.Steps.{TakenOff}
use Rattle.ledger.proofs.issue.take_off_all.Given as goal

abbrev pub invariant-loop-note : goal.invariant-loop-note
invariant-loop-note l = TakenOff l.initial.rest l.rest (noted (take l.note-index l.notes))
