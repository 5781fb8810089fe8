use Rattle.std.proofs.Common.{ap, ◌∙◌, arith}
use borrow.Author.Differences.{ints}
use Rattle.amounts.proofs.Adding.{sum_more}
use Rattle.amounts.proofs.sums.sum_of.Goals as goal

pub loop-x-preserved : goal.loop-x-preserved
loop-x-preserved g c =
    let f = g.T.Term.adds c.args.t.now in
    let e = sum_more f c.args.xs.now c.loop-x.x-index c.x-item.result (omega arith) in
    let v = c.term-total.ensures.value ∙ ap f c.x-item.is in
    (omega (arith, ints), omega (arith, ints))
