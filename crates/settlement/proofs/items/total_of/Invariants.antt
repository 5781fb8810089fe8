use Rattle.std.proofs.Common.{◌≡◌, ◌*◌, ◌≤◌, take, ℤ, nat_abs}
use Rattle.codes.specs.Sums.{sum_over}
use Rattle.settlement.proofs.items.total_of.Given as goal

abbrev pub invariant-loop-amount : goal.invariant-loop-amount
invariant-loop-amount l = (l.total ≡ sum_over (λ (z : ℤ). z) (take l.amount-index l.amounts)) × (nat_abs l.total ≤ 16000000000000000 * l.amount-index)
