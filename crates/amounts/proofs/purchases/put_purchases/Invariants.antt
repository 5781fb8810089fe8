use Rattle.std.proofs.Common.{◌≡◌, ℕ, ◌+◌, ◌*◌, ◌<◌, ◌≤◌, length, get_or, take}
use Rattle.amounts.specs.Buying.{bought_sum}
use Rattle.amounts.proofs.purchases.put_purchases.Given as goal

abbrev pub invariant-loop-x : goal.invariant-loop-x
invariant-loop-x l =
    (k : ℕ) → k < length l.weights
    → (get_or l.weights k 0 ≡ bought_sum l.hour (k + 1) (take l.x-index l.positions)) × (get_or l.weights k 0 ≤ 2000000 * l.x-index)
