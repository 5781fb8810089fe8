use Rattle.std.proofs.Common.{◌≡◌, ◌+◌, get_or, pos, ◌+ℤ◌, sym, ap, ◌∙◌, arith, w64, SFits, rules}
use Rattle.std.proofs.lemmas.Int.{to_z-of_z}
use Rattle.amounts.specs.Amounts.{owned_by}
use Rattle.settlement.proofs.Known.{known_account}
use Rattle.settlement.proofs.Rows.{first_amounts, first_more, row_as, row_more}
use Rattle.settlement.proofs.adding.add_listed.Goals as goal

pub add-requires-clause-known : goal.add-requires-clause-known
add-requires-clause-known c = known_account (c.loop-i.i + 1) (omega arith) (omega (arith, c.requires.few))

pub loop-i-preserved : goal.loop-i-preserved
loop-i-preserved c =
    let i = c.loop-i.i in
    let xs = c.args.amounts.now in
    let fits : SFits w64 (get_or xs i (pos 0)) = search rules in
    row_more c.args.table.now c.loop-i.table c.add.new.table c.args.code _ _ (i + 1) _ c.loop-i.invariant c.add.ensures
    (λ q. first_more xs i q ∙ ap (λ z. first_amounts xs i q +ℤ owned_by (i + 1) q z) (sym (to_z-of_z w64 (get_or xs i (pos 0)) fits)))

pub returns : goal.returns
returns c =
    let n : c.loop-i.i ≡ _ = omega arith in
    row_as c.args.table.now c.loop-i.table c.args.code _ _ (λ q. ap (λ k. first_amounts c.args.amounts.now k q) n) c.loop-i.invariant
