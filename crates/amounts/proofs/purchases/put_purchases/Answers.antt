use Rattle.std.proofs.Common.{◌≡◌, ℕ, ◌+◌, length, sym, ap, ◌∙◌, arith}
use Rattle.std.proofs.lemmas.List.FromFn.{get_or-map-range_with_len, length-map-range_with_len}
use Rattle.std.proofs.lemmas.List.{ext_get_or, take_all}
use Rattle.amounts.specs.Buying.{bought_sum}
use Rattle.amounts.proofs.purchases.put_purchases.Goals as goal

pub returns : goal.returns
returns c =
    let n = length c.args.weights.now in
    let f : ℕ → ℕ = λ account. bought_sum c.args.hour account c.args.positions.now in
    let long : length c.loop-x.weights ≡ n = c.loop-x.auto.weights ∙ c.fill.ensures.len in
    ext_get_or 0 c.loop-x.weights _ (long ∙ sym (length-map-range_with_len f 1 n))
    (λ k h. (c.loop-x.invariant k h).0 ∙ ap (bought_sum c.args.hour (k + 1)) (take_all c.loop-x.x-index c.args.positions.now (omega arith))
    ∙ sym (get_or-map-range_with_len f 1 n k _ 0 (omega (arith, h, long)) (omega arith)))
