use Rattle.std.proofs.Common.{◌<◌, sum, ap, arith}
use Rattle.std.proofs.lemmas.List.Sums.{get_or-le-sum_by}
use Rattle.sharing.specs.LargestFair.{floors_le}
use Rattle.sharing.proofs.largest_remainder.LargestRemainderLaying.lay.Goals as goal

-- a floor is at most the sum of all floors, which is at most the amount
pub give_missing-requires-clause-small : goal.give_missing-requires-clause-small
give_missing-requires-clause-small c =
    let p = c.args.proportions.now in
    let some : 0 < sum p.weights.now = omega (arith, p.whole, p.rate.some) in
    λ k h. omega (arith, get_or-le-sum_by (λ x. x) c.lay_floors-lacking.new.shares k 0 h, ap sum c.lay_floors-lacking.ensures.floors, floors_le p.rate.amount p.weights.now some, p.rate.small)
