use Rattle.std.proofs.Math.ListN.{length-set}
use Rattle.std.proofs.Common.{◌≡◌, ◌+◌, ◌-◌, ◌≤◌, length, get_or, set, ℤ, pos, ◌+ℤ◌, sym, ap, ◌∙◌, arith, w64, to_z, of_z}
use borrow.Author.Differences.{ints}
use Rattle.std.proofs.ByRecursion.{All-get_or}
use Rattle.valuation.specs.Blanks.{no_reserve}
use Rattle.amounts.specs.Amounts.{owned_by}
use Rattle.amounts.proofs.Adding.{sum_more}
use Rattle.amounts.proofs.Arrays.{grown_atℤ, owned_le}
use Rattle.charges.specs.Items.{failing}
use Rattle.charges.proofs.penalties.put_failed.Goals as goal

pub loop-x-preserved : goal.loop-x-preserved
loop-x-preserved c = λ k h.
    let xs = c.args.reserves.now in
    let i = c.loop-x.x-index in
    let x = get_or xs i no_reserve in
    let ws = c.loop-x.sums in
    let j = x.account - 1 in
    let v = c.failing_term.result in
    let p : (1 ≤ x.account) × (x.account ≤ length c.args.sums.now) = All-get_or (λ x. (1 ≤ x.account) × (x.account ≤ length c.args.sums.now)) xs i no_reserve (omega arith) c.requires.listed in
    let high : x.account ≤ length ws = omega (arith, p.1, c.loop-x.auto.sums, c.fill.ensures.len) in
    let was = c.loop-x.invariant k (omega (arith, simp length-set at h)) in
    let there = (c.loop-x.invariant j (omega (arith, p.0, high))).1 in
    let more = sum_more (λ x. owned_by x.account (k + 1) (failing c.args.failure x)) xs i no_reserve (omega arith) in
    let e : to_z w64 (of_z w64 (to_z w64 (of_z w64 (get_or ws j (pos 0))) +ℤ to_z w64 (of_z w64 v))) ≡ get_or ws j (pos 0) +ℤ v = omega (arith, ints, there, c.requires.few, c.failing_term.ensures.bound) in
    let grew = ap (λ (z : ℤ). get_or (set ws j z) k (pos 0)) e ∙ grown_atℤ x.account k p.0 ws v high in
    let same : owned_by x.account (k + 1) v ≡ owned_by x.account (k + 1) (failing c.args.failure x) = ap (owned_by x.account (k + 1)) c.failing_term.ensures.value in
    rw c.from.ensures (
      grew ∙ (λ n. was.0 n +ℤ same n) ∙ sym more,
      omega (arith, ints, grew, was.1, owned_le x.account (k + 1) v 40000000000000 c.failing_term.ensures.bound),
    )
