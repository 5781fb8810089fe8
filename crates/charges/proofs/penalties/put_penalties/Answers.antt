use Rattle.std.proofs.Common.{◌≡◌, ◌+◌, ◌<◌, length, get_or, pos, ap, arith}
use borrow.Author.Differences.{ints}
use Rattle.valuation.specs.Blanks.{no_failure}
use Rattle.amounts.proofs.Adding.{sum_more}
use Rattle.charges.specs.Items.{at_least_zero, penalty_among}
use Rattle.charges.proofs.AtLeastZero.{zero_le}
use Rattle.charges.proofs.penalties.put_penalties.Goals as goal

pub loop-failure-preserved : goal.loop-failure-preserved
loop-failure-preserved c = λ k h.
    let fs = c.args.failures.now in
    let i = c.loop-failure.failure-index in
    let f = get_or fs i no_failure in
    let rs = c.args.reserves.now in
    let long : length c.put_failed.new.sums ≡ length c.loop-failure.penalties = omega (arith, c.put_failed.auto.sums, c.loop-failure.auto.sums, c.loop-failure.auto.penalties, c.requires.long, c.fill.ensures.len) in
    let within : k < length c.loop-failure.penalties = omega (arith, h, c.add_penalties.auto.penalties) in
    let was = c.loop-failure.invariant k within in
    let more = sum_more (penalty_among rs (k + 1)) fs i no_failure (omega arith) in
    let is : at_least_zero (get_or c.put_failed.new.sums k (pos 0)) ≡ penalty_among rs (k + 1) f = ap at_least_zero (c.put_failed.ensures.value k (omega (arith, within, long))) in
    let grew = c.add_penalties.ensures k h in
    let small = zero_le (get_or c.put_failed.new.sums k (pos 0)) in
    (omega (arith, ints, grew, is, was.0, more), omega (arith, ints, grew, was.1, small, c.put_failed.ensures.bound k (omega (arith, within, long))))
