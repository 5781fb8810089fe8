use Rattle.std.proofs.Common.{◌≡◌, ℕ, ◌+◌, ◌*◌, ◌<◌, ◌≤◌, length, get_or, take, pos, nat_abs}
use Rattle.codes.specs.Sums.{sum_over}
use Rattle.charges.specs.Items.{penalty_among}
use Rattle.charges.proofs.penalties.put_penalties.Given as goal

abbrev pub invariant-loop-failure : goal.invariant-loop-failure
invariant-loop-failure l =
    (k : ℕ) → k < length l.penalties
    → (get_or l.penalties k (pos 0) ≡ sum_over (penalty_among l.reserves (k + 1)) (take l.failure-index l.failures)) × (nat_abs (get_or l.penalties k (pos 0)) ≤ 16000000000000000 * l.failure-index)
