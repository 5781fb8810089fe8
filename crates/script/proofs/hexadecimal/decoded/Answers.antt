use Rattle.std.proofs.Common.{[], ◌∷◌, ◌++◌, sym, ◌∙◌, arith}
use Rattle.std.proofs.lemmas.List.FromFn.{map-range_with_len_more}
use Rattle.script.specs.Digits.{hex_byte}
use Rattle.script.proofs.hexadecimal.decoded.Goals as goal

pub loop-index-preserved : goal.loop-index-preserved
loop-index-preserved c =
    let i = c.loop-index.index in
    let f = hex_byte c.args.digits.now in (
      c.push_reserved.ensures.items ∙ (λ k. c.loop-index.invariant.0 k ++ (c.byte_at.ensures k ∷ [])) ∙ sym (map-range_with_len_more f 0 i i (omega arith)),
      omega (arith, c.push_reserved.ensures.len, c.loop-index.invariant.1),
      omega (arith, c.push_reserved.ensures.capacity, c.loop-index.invariant.2),
    )
