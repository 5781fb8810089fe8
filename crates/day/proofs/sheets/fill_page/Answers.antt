use Rattle.book.specs.Books.{held}
use Rattle.settlement.specs.Days.{sheet_refusal}
use Rattle.settlement.specs.Sheets.{sheet}
use Rattle.day.proofs.Filling.{filled_is}
use Rattle.day.proofs.Given.{outcome_tells}
use Rattle.day.proofs.sheets.fill_page.Goals as goal

pub returns : goal.returns
returns g c =
    let r = held c.args.book.now in
    let cells = sheet (g.R.Sharing.parts c.args.rule.now) r c.args.hour in
    let went = c.fill_sheet-answer.ensures in
    record {
      value = outcome_tells (sheet_refusal r c.args.hour) c.fill_sheet-answer.result went.value;
      after = filled_is (sheet_refusal r c.args.hour) c.args.page.now c.fill_sheet-answer.new.table cells c.as_slice.ensures.count went.after;
    }
