use Rattle.std.proofs.Common.{◌≡◌, ◌<◌, ◌≢◌, length, get_or, ℤ, pos, ◌+ℤ◌, ap, ◌∙◌, arith, get_or-set_other, get_or-set_same, w64, SFits, to_z, of_z, rules, below_more}
use borrow.Author.Differences.{ints}
use Rattle.std.proofs.lemmas.Int.{to_z-of_z}
use Rattle.charges.specs.Items.{at_least_zero}
use Rattle.charges.proofs.penalties.add_penalties.Goals as goal

pub loop-i-preserved : goal.loop-i-preserved
loop-i-preserved c =
    let i = c.loop-i.i in
    let ps = c.loop-i.penalties in
    let ss = c.args.sums.now in
    let v = c.at_least_zero.result in
    let fits : SFits w64 (get_or ss i (pos 0)) = search rules in
    let is : v ≡ at_least_zero (get_or ss i (pos 0)) = c.at_least_zero.ensures.value ∙ ap at_least_zero (to_z-of_z w64 (get_or ss i (pos 0)) fits) in
    let within : i < length ps = omega (arith, c.requires.long) in
    let old : get_or ps i (pos 0) ≡ get_or c.args.penalties.now i (pos 0) = c.loop-i.invariant.1 i (omega arith) in
    let sum : ℤ = to_z w64 (of_z w64 (to_z w64 (of_z w64 (get_or ps i (pos 0))) +ℤ to_z w64 (of_z w64 v))) in
    let grew : sum ≡ get_or ps i (pos 0) +ℤ v = omega (arith, ints, c.requires.room i (omega (arith, c.requires.long)), old, c.requires.small i (omega arith)) in (
      below_more _ _
          (λ k h. let ne : k ≢ i = omega arith in get_or-set_other ps i k sum (pos 0) ne ∙ c.loop-i.invariant.0 k h)
          (get_or-set_same ps i sum (pos 0) within ∙ grew ∙ (λ j. old j +ℤ is j)),
      λ k h. let ne : k ≢ i = omega arith in get_or-set_other ps i k sum (pos 0) ne ∙ c.loop-i.invariant.1 k (omega arith),
    )
