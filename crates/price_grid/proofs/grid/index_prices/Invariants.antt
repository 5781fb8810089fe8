use Rattle.std.proofs.Common.{map, reverse}
use Rattle.price_grid.specs.Grid.{Indexes}
use Rattle.price_grid.proofs.grid.index_prices.Given as goal

-- the spots have the prices from the last one down
abbrev pub invariant-loop-p : goal.invariant-loop-p
invariant-loop-p l = Indexes l.spots (reverse (map (λ p. p.now) l.yielded))
