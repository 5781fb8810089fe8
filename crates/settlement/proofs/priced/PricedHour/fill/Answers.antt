use Rattle.std.proofs.Common.{◌≡◌, Bool, false, cond, Some, None, sym, ◌∙◌, subst}
use Rattle.book.specs.Books.{held}
use Rattle.amounts.specs.Amounts.{lacking}
use Rattle.settlement.specs.Days.{Filled, no_purchases}
use Rattle.settlement.specs.Sheets.{sheet}
use Rattle.settlement.proofs.Rows.{empty_room, from_empty}
use Rattle.settlement.proofs.priced.PricedHour.fill.Goals as goal

pub add_sheet-requires-clause-room : goal.add_sheet-requires-clause-room
add_sheet-requires-clause-room g c = empty_room c.clear.new.self c.clear.ensures

pub returns-clause-after : goal.returns-clause-after
returns-clause-after g c =
    let r = held c.args.self.now.day.now.book.now in
    let h = c.args.self.now.hour in
    let f = sheet (g.R.Sharing.parts c.args.rule.now) r h in
    let e : lacking r h ≡ false = sym c.is_lacking.ensures ∙ c.if-is_lacking.false in
    subst (λ (b : Bool). Filled (cond b (Some (no_purchases h)) None) c.args.table.now c.add_sheet.new.table f) (sym e)
    (from_empty c.clear.new.self c.add_sheet.new.table f c.clear.ensures c.add_sheet.ensures)
