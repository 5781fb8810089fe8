use Rattle.std.proofs.Common.{eqb, length, ap, ◌∙◌, arith, rules, tests, length-append}
use Rattle.std.proofs.lemmas.Iterator.{YieldsList-from_slice}
use Rattle.std.proofs.lemmas.Iterator.Consumers.{YieldsList-end, YieldsList-from_filter, YieldsList-turn}
use Rattle.std.proofs.lemmas.List.{length_push}
use Rattle.std.specs.Iterator.Adapters.{filter_callee}
use Rattle.std.specs.List.{flat_map}
use Rattle.statement.specs.Lines.{note_line}
use Rattle.statement.specs.Statements.{of_issue}
use Rattle.statement.proofs.Stated.{all_lines, of_issue_front, one_more}
use Rattle.statement.proofs.issued.lines_length.Goals as goal

pub overflow_add-total : goal.overflow_add-total
overflow_add-total c =
    let turn = YieldsList-turn (YieldsList-from_filter _ (λ n. eqb n.issue c.args.issue) (YieldsList-from_slice c.args.notes.now (cc)) (ap filter_callee c.into_iter-note-iterator.ensures.into_iter_gives ∙ c.filter-note-items.ensures.closure) (λ x b q k. search (rules, tests))) c.loop-note.yielded _ c.loop-note.yielded_by _ _ c.in-Some.note c.in-Some.is c.next.ensures.steps in
    omega (arith, turn.0, of_issue_front c.args.issue c.args.notes.now, c.note_line_length-total.ensures.bound, c.loop-note.invariant.1)

pub loop-note-preserved : goal.loop-note-preserved
loop-note-preserved c =
    let more = ap length (one_more c.loop-note.yielded c.in-Some.note) ∙ length-append (flat_map (λ n. note_line n.now) c.loop-note.yielded) (note_line c.in-Some.note.now) in
    let n = length_push c.loop-note.yielded c.in-Some.note in
    (omega (arith, more, c.loop-note.invariant.0, c.note_line_length-total.ensures.value), omega (arith, n, c.loop-note.invariant.1, c.note_line_length-total.ensures.bound))

pub returns : goal.returns
returns c =
    let mine = of_issue c.args.issue c.args.notes.now in
    let ended = YieldsList-end (YieldsList-from_filter _ (λ n. eqb n.issue c.args.issue) (YieldsList-from_slice c.args.notes.now (cc)) (ap filter_callee c.into_iter-note-iterator.ensures.into_iter_gives ∙ c.filter-note-items.ensures.closure) (λ x b q k. search (rules, tests))) c.loop-note.yielded _ c.loop-note.yielded_by _ _ c.in-None.is c.next.ensures.steps in
    record {
      value = c.loop-note.invariant.0 ∙ ap length (all_lines mine c.loop-note.yielded ended.0);
      bound = omega (arith, ended.1, of_issue_front c.args.issue c.args.notes.now, c.loop-note.invariant.1);
    }
