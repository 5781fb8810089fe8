use Rattle.std.proofs.Common.{refl, subst}
use Rattle.std.proofs.lemmas.List.{take_all}
use Rattle.ledger.specs.Issues.{noted}
use Rattle.ledger.specs.Steps.{TakenOff}
use Rattle.ledger.proofs.Counting.{taken_more, taken_none, takeable_next}
use Rattle.ledger.proofs.issue.take_off_all.Goals as goal

pub loop-note-init : goal.loop-note-init
loop-note-init c = taken_none c.args.rest.now c.args.rest.now refl

pub take_off-requires : goal.take_off-requires
take_off-requires c = takeable_next c.args.rest.now c.loop-note.rest c.args.notes.now c.loop-note.note-index c.loop-note-test.true c.loop-note.invariant c.requires

pub loop-note-preserved : goal.loop-note-preserved
loop-note-preserved c =
    taken_more c.args.rest.now c.loop-note.rest c.args.notes.now c.loop-note.note-index c.loop-note-test.true c.loop-note.invariant c.take_off.new.rest c.take_off.ensures

pub returns : goal.returns
returns c =
    subst (λ ns. TakenOff c.args.rest.now c.loop-note.rest (noted ns)) (take_all c.loop-note.note-index c.args.notes.now c.loop-note-test.false) c.loop-note.invariant
