use Rattle.std.proofs.Common.{◌≡◌, ℕ, ◌+◌, ◌<◌, ◌≤◌, cond, ltb, get_or}
use Rattle.sharing.specs.LargestRemainder.{rank}
use Rattle.sharing.proofs.largest_remainder.give_missing.Given as goal

abbrev pub invariant-loop-i : goal.invariant-loop-i
invariant-loop-i l =
    ((k : ℕ) → k < l.i → get_or l.shares k 0 ≡ get_or l.initial.shares k 0 + cond (ltb (rank l.rests k) l.lacking) 1 0)
    × ((k : ℕ) → l.i ≤ k → get_or l.shares k 0 ≡ get_or l.initial.shares k 0)
