use Rattle.book.specs.Books.{held}
use Rattle.settlement.specs.Sheets.{sheet}
use Rattle.settlement.proofs.Rows.{Upto}
use Rattle.settlement.proofs.priced.PricedHour.add_sheet.Given as goal

abbrev pub invariant-loop-row : goal.invariant-loop-row
invariant-loop-row g l = Upto l.initial.table l.table l.row-index (sheet (g.R.Sharing.parts l.rule) (held l.self.day.now.book.now) l.self.hour)
