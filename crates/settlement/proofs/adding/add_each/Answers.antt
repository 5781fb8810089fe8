use Rattle.std.proofs.Common.{◌≡◌, ℕ, ◌+◌, take, ◌+ℤ◌, sym, ap, ◌∙◌, arith, w64}
use borrow.Author.Differences.{ints}
use Rattle.std.proofs.lemmas.List.{take_all}
use Rattle.std.proofs.lemmas.Int.{to_z-of_z}
use Rattle.codes.specs.Sums.{sum_over}
use Rattle.amounts.specs.Amounts.{owned_by}
use Rattle.amounts.proofs.Adding.{sum_more}
use Rattle.amounts.proofs.Arrays.{owned_le}
use Rattle.settlement.proofs.Rows.{row_as, row_more}
use Rattle.settlement.proofs.adding.add_each.Goals as goal

pub loop-x-preserved : goal.loop-x-preserved
loop-x-preserved g c =
    let xs = c.args.xs.now in
    let i = c.loop-x.x-index in
    let x = c.x-item.result in
    let party = g.X.Payee.party in
    let adds = g.T.Term.adds c.args.term.now in
    let d = c.term.result in
    let fits = to_z-of_z w64 d (record { sfits = c.term.type_inv }) in
    let step : (q : ℕ) → sum_over (λ x. owned_by (party x) q (adds x)) (take (i + 1) xs) ≡ sum_over (λ x. owned_by (party x) q (adds x)) (take i xs) +ℤ owned_by c.party.result q d =
    λ q. sum_more (λ x. owned_by (party x) q (adds x)) xs i x (omega arith)
    ∙ ap (λ z. sum_over (λ x. owned_by (party x) q (adds x)) (take i xs) +ℤ z)
    (sym (ap (λ y. owned_by (party y) q (adds y)) c.x-item.is) ∙ sym (λ j. owned_by (c.party.ensures.value j) q (c.term.ensures.value j))) in (
      row_more c.args.table.now c.loop-x.table c.add.new.table c.args.code _ _ c.party.result _ c.loop-x.invariant.0 c.add.ensures
          (λ q. step q ∙ ap (λ z. sum_over (λ x. owned_by (party x) q (adds x)) (take i xs) +ℤ owned_by c.party.result q z) (sym fits)),
      λ q. omega (arith, ints, step q, c.loop-x.invariant.1 q, owned_le c.party.result q d 1000000000000000 c.term.ensures.bound),
    )

pub returns : goal.returns
returns g c =
    let xs = c.args.xs.now in
    row_as c.args.table.now c.loop-x.table c.args.code _ _
    (λ q. ap (sum_over (λ x. owned_by (g.X.Payee.party x) q (g.T.Term.adds c.args.term.now x))) (take_all c.loop-x.x-index xs (omega arith)))
    c.loop-x.invariant.0
