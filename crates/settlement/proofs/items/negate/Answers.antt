use Rattle.std.proofs.Common.{◌≡◌, ◌<◌, ◌≢◌, length, get_or, ℤ, pos, ◌-ℤ◌, neg_ℤ, ap, ◌∙◌, arith, get_or-set_other, get_or-set_same, w64, to_z, of_z, below_more}
use borrow.Author.Differences.{ints}
use Rattle.settlement.proofs.items.negate.Goals as goal

pub loop-amount-preserved : goal.loop-amount-preserved
loop-amount-preserved c =
    let i = c.loop-amount.amount-index in
    let cs = c.loop-amount.amounts in
    let old = c.args.amounts.now in
    let z = get_or cs i (pos 0) in
    let v : ℤ = to_z w64 (of_z w64 (pos 0 -ℤ to_z w64 (of_z w64 z))) in
    let within : i < length old = omega arith in
    let is : z ≡ get_or old i (pos 0) = c.loop-amount.invariant.1 i (omega arith) in
    let e : v ≡ neg_ℤ z = omega (arith, ints, is, c.requires i within) in (
      below_more _ _
          (λ k h. let ne : k ≢ i = omega arith in get_or-set_other cs i k v (pos 0) ne ∙ c.loop-amount.invariant.0 k h)
          (get_or-set_same cs i v (pos 0) (omega arith) ∙ e ∙ ap neg_ℤ is),
      λ k h. let ne : k ≢ i = omega arith in get_or-set_other cs i k v (pos 0) ne ∙ c.loop-amount.invariant.1 k (omega arith),
    )
