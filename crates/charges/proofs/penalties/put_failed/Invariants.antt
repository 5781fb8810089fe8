use Rattle.std.proofs.Common.{◌≡◌, ℕ, ◌+◌, ◌*◌, ◌<◌, ◌≤◌, length, get_or, take, pos, nat_abs}
use Rattle.charges.specs.Items.{failed_among}
use Rattle.charges.proofs.penalties.put_failed.Given as goal

abbrev pub invariant-loop-x : goal.invariant-loop-x
invariant-loop-x l =
    (k : ℕ) → k < length l.sums
    → (get_or l.sums k (pos 0) ≡ failed_among (take l.x-index l.reserves) l.failure (k + 1)) × (nat_abs (get_or l.sums k (pos 0)) ≤ 40000000000000 * l.x-index)
