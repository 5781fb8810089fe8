use Rattle.std.proofs.Common.{◌≡◌, ℕ, ◌+◌, ◌<◌, get_or, take, sum}
use Rattle.sharing.specs.LargestRemainder.{floors, remainders}
use Rattle.sharing.proofs.largest_remainder.lay_floors.Given as goal

abbrev pub invariant-loop-i : goal.invariant-loop-i
invariant-loop-i l =
    (l.lacking + sum (take l.i (floors l.rate.amount l.weights)) ≡ l.rate.amount)
    × ((k : ℕ) → k < l.i → get_or l.shares k 0 ≡ get_or (floors l.rate.amount l.weights) k 0)
    × ((k : ℕ) → k < l.i → get_or l.rests k 0 ≡ get_or (remainders l.rate.amount l.weights) k 0)
