use Rattle.std.proofs.Common.{◌≡◌, ◌*◌, ◌≤◌, take, nat_abs}
use Rattle.codes.specs.Sums.{sum_over}
use Rattle.amounts.proofs.sums.sum_of.Given as goal

abbrev pub invariant-loop-x : goal.invariant-loop-x
invariant-loop-x g l = (l.total ≡ sum_over (g.T.Term.adds l.t) (take l.x-index l.xs)) × (nat_abs l.total ≤ 1000000000000000 * l.x-index)
