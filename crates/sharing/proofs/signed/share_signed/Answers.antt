use Rattle.std.proofs.Common.{◌≡◌, map, nat_abs, sum, ap, ◌∙◌, w64}
use Rattle.std.proofs.lemmas.Int.{to_z-of_z}
use Rattle.sharing.specs.Shareable.{not_shareable}
use Rattle.sharing.specs.Signed.{sumℤ, with_sign_of}
use Rattle.sharing.specs.Admitted.{admitted_parts, ok_of}
use Rattle.sharing.proofs.SignedSums.{signed_total}
use Rattle.sharing.proofs.signed.share_signed.Goals as goal

-- by the law the magnitudes add up to that of the amount
pub returns-clause-whole : goal.returns-clause-whole
returns-clause-whole g c =
    let z = c.args.amount in
    let fits = c.ranges.amount in
    let a = c.unsigned_abs.result in
    let ws = c.args.weights.now in
    let rule = c.args.rule.now in
    let xs = c.share.new.shares in
    let abs : a ≡ nat_abs z = c.unsigned_abs.ensures.value ∙ ap nat_abs (to_z-of_z w64 z fits) in
    let laid : c.lay_signed.new.shares ≡ map (with_sign_of z) xs = c.lay_signed.ensures ∙ ap (λ x. map (with_sign_of x) xs) (to_z-of_z w64 z fits) in
    let yes = (ok_of _ tt _ not_shareable c.in_ok-share.ensures.answer).0 in
    let s = (admitted_parts a ws _ yes).1 in
    let all : sum xs ≡ a = ap sum (rw yes at c.in_ok-share.ensures.after) ∙ (g.met.R.Sharing.fair rule).whole a ws s in
    ap sumℤ laid ∙ signed_total z xs (all ∙ abs)
