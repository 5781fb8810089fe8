use Rattle.std.proofs.Common.{◌≡◌, ℕ, ◌<◌, ◌≤◌, get_or, pos, neg_ℤ}
use Rattle.settlement.proofs.items.negate.Given as goal

abbrev pub invariant-loop-amount : goal.invariant-loop-amount
invariant-loop-amount l =
    ((k : ℕ) → k < l.amount-index → get_or l.amounts k (pos 0) ≡ neg_ℤ (get_or l.initial.amounts k (pos 0)))
    × ((k : ℕ) → l.amount-index ≤ k → get_or l.amounts k (pos 0) ≡ get_or l.initial.amounts k (pos 0))
