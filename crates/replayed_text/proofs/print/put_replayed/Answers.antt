use Rattle.std.proofs.Common.{length, vec_items, sym, ap, ◌∙◌, arith}
use Rattle.book.specs.Books.{held}
use Rattle.day.specs.Memory.{memory}
use Rattle.history.specs.Events.{lent}
use Rattle.text.specs.Lines.{refused_text}
use Rattle.text.specs.Written.{left_if_fits}
use Rattle.replayed_text.proofs.Printed.{run_ends, run_refused}
use Rattle.replayed_text.proofs.print.put_replayed.Goals as goal

pub returns-in-Ok : goal.returns-in-Ok
returns-in-Ok c =
    let before = memory (held c.args.book.now) c.args.table.now c.args.ledger.now in
    let after = memory (held c.replay.new.book) c.replay.new.table c.replay.new.ledger in
    let end = c.in-Ok.end in
    let ends = run_ends _ c.first_issue-steps.result c.first_issue-steps.ensures c.args.file before (lent c.args.page.now c.args.buffer.now) c.requires.ledger c.requires.buffer end.day (vec_items end.answers) after (lent c.replay.new.page c.replay.new.buffer) c.in-Ok.ensures.run in
    record {
      answer = c.put_end.ensures.length ∙ ends.long;
      after = c.put_end.ensures.after ∙ ends.holds;
      within = omega (arith, c.put_end.ensures.length, ends.long, ends.within c.put_end.ensures.fits);
    }

pub returns-in-Err-Refused : goal.returns-in-Err-Refused
returns-in-Err-Refused c =
    let fault = c.in-Err-Refused.fault in
    let before = memory (held c.args.book.now) c.args.table.now c.args.ledger.now in
    let after = memory (held c.replay.new.book) c.replay.new.table c.replay.new.ledger in
    let run = run_refused c.first_issue-steps.result c.args.file before after (lent c.args.page.now c.args.buffer.now) (lent c.replay.new.page c.replay.new.buffer) c.in-Err-Refused.field-0 fault c.in-Err-Refused.field-0-is c.in-Err-Refused.ensures.run in
    record {
      answer = c.put_fault.ensures.answer ∙ ap length (sym run.0);
      after = c.put_fault.ensures.after ∙ ap (left_if_fits (refused_text fault)) run.1 ∙ ap (λ t. left_if_fits t c.args.buffer.now) (sym run.0);
      within = omega (arith, c.put_fault.ensures.within, ap length run.1);
    }
