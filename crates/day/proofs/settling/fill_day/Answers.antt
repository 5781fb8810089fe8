use Rattle.book.specs.Books.{held}
use Rattle.settlement.specs.Days.{day_cell, settle_refusal}
use Rattle.day.proofs.Filling.{filled_is}
use Rattle.day.proofs.Given.{outcome_tells}
use Rattle.day.proofs.settling.fill_day.Goals as goal

pub returns : goal.returns
returns g c =
    let r = held c.args.book.now in
    let cells = day_cell (g.R.Sharing.parts c.args.rule.now) r in
    let went = c.settle-answer.ensures in
    record {
      value = outcome_tells (settle_refusal r) c.settle-answer.result went.value;
      after = filled_is (settle_refusal r) c.args.table.now c.settle-answer.new.table cells c.as_slice.ensures.count went.after;
    }
