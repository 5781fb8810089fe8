use Rattle.std.proofs.Common.{ℕ, List}
use Rattle.book.specs.Books.{held}
use Rattle.settlement.specs.Days.{item}
use Rattle.settlement.proofs.Rows.{Upto}
use Rattle.settlement.proofs.items.Penalties.add_items.Given as goal

abbrev pub invariant-loop-row : goal.invariant-loop-row
invariant-loop-row l = (parts : ℕ → List ℕ → List ℕ) → Upto l.initial.table l.table l.row-index (item parts (held l.self.day.now.book.now))
