use Rattle.std.proofs.Common.{◌+◌, ◌-◌, ◌≤◌}
use Rattle.std.specs.List.{range_with_len}
use Rattle.book.specs.Books.{held}
use Rattle.settlement.specs.Days.{Holds, sheets}
use Rattle.settlement.proofs.priced.PricedBook.add_sheets.Given as goal

abbrev pub invariant-loop-hour : goal.invariant-loop-hour
invariant-loop-hour g l =
    Holds l.table (sheets (g.R.Sharing.parts l.rule) (held l.self.book.now) (range_with_len 1 (l.hour - 1)))
    × (l.hour ≤ l.self.book.now.heading.hours + 1)
