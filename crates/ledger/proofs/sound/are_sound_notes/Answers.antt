use Rattle.std.proofs.Common.{sym, ap, ◌∙◌, arith}
use Rattle.std.proofs.lemmas.Bool.{and_left}
use Rattle.ledger.specs.Notes.{sound_after}
use Rattle.ledger.proofs.Soundness.{past, sound_all, sound_more}
use Rattle.ledger.proofs.sound.are_sound_notes.Goals as goal

pub loop-note-init : goal.loop-note-init
loop-note-init c = sym (ap (λ y. sound_after c.args.issues y c.args.notes.now) c.none-last.ensures)

pub returns-then-not-is_next : goal.returns-then-not-is_next
returns-then-not-is_next c =
    sym (c.loop-note.invariant ∙ sound_more c.args.issues c.loop-note.last c.args.notes.now c.loop-note.note-index c.loop-note-test.true
    ∙ and_left _ _ (sym c.if-not-is_next.ensures))

pub loop-note-preserved : goal.loop-note-preserved
loop-note-preserved c =
    c.loop-note.invariant ∙ sound_more c.args.issues c.loop-note.last c.args.notes.now c.loop-note.note-index c.loop-note-test.true
    ∙ past _ _ (sym c.if-not-is_next.ensures)

pub returns : goal.returns
returns c = sym (c.loop-note.invariant ∙ sound_all c.args.issues c.loop-note.last c.args.notes.now c.loop-note.note-index (omega arith))
