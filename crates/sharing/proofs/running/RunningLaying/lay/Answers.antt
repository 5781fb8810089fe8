use Rattle.std.proofs.Common.{length, ◌∙◌, arith}
use Rattle.std.proofs.lemmas.List.FromFn.{fill_by_all}
use Rattle.sharing.specs.RunningFair.{part}
use Rattle.sharing.proofs.running.RunningLaying.lay.Goals as goal

pub returns : goal.returns
returns c =
    let ws = c.args.proportions.now.weights.now in
    fill_by_all (part c.args.proportions.now.rate.amount ws) c.loop-i.shares (length ws) 0 (c.loop-i.auto.shares ∙ c.requires) (λ k h. c.loop-i.invariant.2 k (omega arith))
