use Rattle.std.proofs.Common.{◌≡◌, ℕ, ◌<◌, ◌≤◌, get_or, pos, ◌+ℤ◌}
use Rattle.charges.specs.Items.{at_least_zero}
use Rattle.charges.proofs.penalties.add_penalties.Given as goal

abbrev pub invariant-loop-i : goal.invariant-loop-i
invariant-loop-i l =
    ((k : ℕ) → k < l.i → get_or l.penalties k (pos 0) ≡ get_or l.initial.penalties k (pos 0) +ℤ at_least_zero (get_or l.sums k (pos 0)))
    × ((k : ℕ) → l.i ≤ k → get_or l.penalties k (pos 0) ≡ get_or l.initial.penalties k (pos 0))
