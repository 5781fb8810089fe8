use Rattle.std.proofs.Common.{eqb, length, sym, ap, ◌∙◌, subst, rules, tests}
use Rattle.std.proofs.lemmas.Iterator.{YieldsList-from_slice}
use Rattle.std.proofs.lemmas.Iterator.Consumers.{YieldsList-end, YieldsList-from_filter, YieldsList-so_far, YieldsList-turn}
use Rattle.std.specs.Iterator.Adapters.{filter_callee}
use Rattle.std.specs.List.{flat_map}
use Rattle.text.specs.Written.{HasRoom, Puts}
use Rattle.text.proofs.Writing.{room_for_piece, then}
use Rattle.statement.specs.Lines.{note_line}
use Rattle.statement.specs.Statements.{of_issue}
use Rattle.statement.proofs.Stated.{one_more, so_far, all_lines}
use Rattle.statement.proofs.issued.put_lines.Goals as goal

pub put_note_line-requires : goal.put_note_line-requires
put_note_line-requires c =
    let mine = of_issue c.args.issue c.args.notes.now in
    let turn = YieldsList-turn (YieldsList-from_filter _ (λ n. eqb n.issue c.args.issue) (YieldsList-from_slice c.args.notes.now (cc)) (ap filter_callee c.into_iter-note-iterator.ensures.into_iter_gives ∙ c.filter-note-items.ensures.closure) (λ x b q k. search (rules, tests))) c.loop-note.yielded _ c.loop-note.yielded_by _ _ c.in-Some.note c.in-Some.is c.next.ensures.steps in
    let front = so_far mine c.loop-note.yielded (YieldsList-so_far (YieldsList-from_filter _ (λ n. eqb n.issue c.args.issue) (YieldsList-from_slice c.args.notes.now (cc)) (ap filter_callee c.into_iter-note-iterator.ensures.into_iter_gives ∙ c.filter-note-items.ensures.closure) (λ x b q k. search (rules, tests))) c.loop-note.yielded _ c.loop-note.yielded_by) in
    subst (λ n. HasRoom c.loop-note.out (note_line n)) (sym turn.1)
    (room_for_piece note_line mine c.in-Some.note.now (length c.loop-note.yielded) turn.0 (subst (λ z. Puts c.args.out.now c.loop-note.out z) front c.loop-note.invariant) c.requires)

pub loop-note-preserved : goal.loop-note-preserved
loop-note-preserved c =
    subst (λ z. Puts c.args.out.now c.put_note_line.new.out z) (sym (one_more c.loop-note.yielded c.in-Some.note))
    (then (flat_map (λ n. note_line n.now) c.loop-note.yielded) (note_line c.in-Some.note.now) c.loop-note.invariant c.put_note_line.ensures)

pub returns : goal.returns
returns c =
    let mine = of_issue c.args.issue c.args.notes.now in
    let ended = YieldsList-end (YieldsList-from_filter _ (λ n. eqb n.issue c.args.issue) (YieldsList-from_slice c.args.notes.now (cc)) (ap filter_callee c.into_iter-note-iterator.ensures.into_iter_gives ∙ c.filter-note-items.ensures.closure) (λ x b q k. search (rules, tests))) c.loop-note.yielded _ c.loop-note.yielded_by _ _ c.in-None.is c.next.ensures.steps in
    subst (λ z. Puts c.args.out.now c.loop-note.out z) (all_lines mine c.loop-note.yielded ended.0) c.loop-note.invariant
