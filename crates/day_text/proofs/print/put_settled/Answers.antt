use Rattle.std.proofs.Common.{◌≡◌, length, take, None, ap, ◌∙◌}
use Rattle.book.specs.Books.{held}
use Rattle.settlement.specs.Days.{Holds, day_cell, settle_refusal}
use Rattle.sharing.specs.Running.{running}
use Rattle.statement.specs.Statements.{statement_text}
use Rattle.text.specs.Written.{left_if_fits}
use Rattle.day_text.specs.Texts.{first_notes}
use Rattle.day_text.proofs.Printed.{err_settled, filled, ok_settled, same_notes, small_cells}
use Rattle.day_text.proofs.print.put_settled.Goals as goal

pub issue_first-notes-requires : goal.issue_first-notes-requires
issue_first-notes-requires c =
    let r = held c.args.book.now in
    let none : settle_refusal r ≡ None = ok_settled (settle_refusal r) c.in-Ok.ensures.value in
    let holds : Holds c.settle.new.table (day_cell running r) = filled (settle_refusal r) c.args.table.now c.settle.new.table (day_cell running r) none c.in-Ok.ensures.after in
    record {
      room = c.requires.ledger;
      small = small_cells r c.settle.new.table c.requires.sound none holds;
    }

pub returns-in-Ok : goal.returns-in-Ok
returns-in-Ok c =
    let r = held c.args.book.now in
    let none : settle_refusal r ≡ None = ok_settled (settle_refusal r) c.in-Ok.ensures.value in
    let holds : Holds c.settle.new.table (day_cell running r) = filled (settle_refusal r) c.args.table.now c.settle.new.table (day_cell running r) none c.in-Ok.ensures.after in
    let notes : take c.issue_first-notes.result c.issue_first-notes.new.ledger ≡ first_notes r = c.issue_first-notes.ensures.notes ∙ same_notes r c.settle.new.table holds in
    record {
      answer = rw none (c.state_first.ensures.answer ∙ ap (λ ns. length (statement_text r.heading ns 0)) notes);
      after = rw none (c.state_first.ensures.after ∙ ap (λ ns. left_if_fits (statement_text r.heading ns 0) c.args.buffer.now) notes);
      within = c.state_first.ensures.within;
    }

pub returns-in-Err : goal.returns-in-Err
returns-in-Err c =
    let r = held c.args.book.now in
    let fault = err_settled (settle_refusal r) c.in-Err.fault c.in-Err.ensures.value in
    record {
      answer = rw fault c.put_fault.ensures.answer;
      after = rw fault c.put_fault.ensures.after;
      within = c.put_fault.ensures.within;
    }
