use Rattle.std.proofs.Common.{ℕ, ◌*◌, ◌≤◌, take, nat_abs}
use Rattle.codes.specs.Sums.{sum_over}
use Rattle.amounts.specs.Amounts.{owned_by}
use Rattle.settlement.specs.Grown.{RowAdded}
use Rattle.settlement.proofs.adding.add_each.Given as goal

abbrev pub invariant-loop-x : goal.invariant-loop-x
invariant-loop-x g l =
    RowAdded l.initial.table l.table l.code
    (λ q. sum_over (λ x. owned_by (g.X.Payee.party x) q (g.T.Term.adds l.term x)) (take l.x-index l.xs))
    × ((q : ℕ) → nat_abs (sum_over (λ x. owned_by (g.X.Payee.party x) q (g.T.Term.adds l.term x)) (take l.x-index l.xs)) ≤ 1000000000000000 * l.x-index)
