use Rattle.std.proofs.Common.{ℤ, pos, arith}
use borrow.Author.Differences.{ints}
use Rattle.amounts.proofs.Adding.{sum_more}
use Rattle.settlement.proofs.items.total_of.Goals as goal

pub loop-amount-preserved : goal.loop-amount-preserved
loop-amount-preserved c =
    let e = sum_more (λ (z : ℤ). z) c.args.amounts.now c.loop-amount.amount-index (pos 0) (omega arith) in
    let s = c.requires.small c.loop-amount.amount-index (omega arith) in
    (omega (arith, ints, c.requires.few), omega (arith, ints, c.requires.few))
