use Rattle.std.proofs.Common.{◌+◌, cond, ltb, length, get_or, ◌∙◌, arith}
use Rattle.std.proofs.lemmas.List.FromFn.{fill_by_all}
use Rattle.sharing.specs.LargestRemainder.{rank}
use Rattle.sharing.proofs.largest_remainder.give_missing.Goals as goal

pub returns : goal.returns
returns c =
    let rs = c.args.rests.now in
    fill_by_all (λ i. get_or c.args.shares.now i 0 + cond (ltb (rank rs i) c.args.lacking) 1 0) c.loop-i.shares (length rs) 0
    (c.loop-i.auto.shares ∙ c.requires.places)
    (λ k h. c.loop-i.invariant.0 k (omega arith))
