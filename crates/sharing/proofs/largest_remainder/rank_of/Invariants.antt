use Rattle.std.proofs.Common.{◌≡◌, ◌≤◌}
use Rattle.sharing.specs.LargestRemainder.{before, count}
use Rattle.sharing.proofs.largest_remainder.rank_of.Given as goal

abbrev pub invariant-loop-j : goal.invariant-loop-j
invariant-loop-j l = (l.n ≡ count l.j (before l.rests l.i)) × (l.n ≤ l.j)
