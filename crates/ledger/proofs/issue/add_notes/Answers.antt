use Rattle.std.proofs.Common.{Ok, Err, sym, ap, ◌∙◌, arith, rules}
use Rattle.std.proofs.lemmas.Bool.{leb-false, leb-true}
use Rattle.codes.specs.Cells.{cell}
use Rattle.ledger.specs.Issues.{notes_of}
use Rattle.ledger.proofs.Adding.{new_fit, new_full}
use Rattle.ledger.proofs.issue.add_notes.Goals as goal

pub returns-then-not-has_room : goal.returns-then-not-has_room
returns-then-not-has_room c =
    let both = new_full c.args.ledger.now (notes_of c.args.issue (cell c.args.rest.now)) c.args.notes (omega (arith, c.count_notes-added.ensures c.args.issue, leb-false _ _ (sym c.if-not-has_room.ensures))) in
    record { answer = ap (λ f. Err f) c.plain.ensures ∙ both.0; after = both.1 }

pub put_notes-requires : goal.put_notes-requires
put_notes-requires c = omega (arith, c.count_notes-added.ensures c.args.issue, leb-true _ _ (sym c.if-not-has_room.ensures))

pub returns-clause-answer : goal.returns-clause-answer
returns-clause-answer c =
    ap Ok (c.count_notes-added.ensures c.args.issue)
    ∙ (new_fit c.args.ledger.now c.put_notes.new.out.buffer.now (notes_of c.args.issue (cell c.args.rest.now)) c.args.notes c.put_notes.new.out.at c.put_notes.ensures.wrote).0

pub returns-clause-after : goal.returns-clause-after
returns-clause-after c =
    let both = new_fit c.args.ledger.now c.put_notes.new.out.buffer.now (notes_of c.args.issue (cell c.args.rest.now)) c.args.notes c.put_notes.new.out.at c.put_notes.ensures.wrote in
    search rules
