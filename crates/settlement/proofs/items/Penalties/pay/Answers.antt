use Rattle.std.proofs.Common.{◌≡◌, ℕ, refl, sym, ap, take, ◌∙◌, subst, arith, w64, to_z, of_z}
use Rattle.std.proofs.lemmas.Int.{to_z-of_z}
use Rattle.book.specs.Books.{held}
use Rattle.amounts.specs.Amounts.{owned_by}
use Rattle.charges.specs.Items.{all_penalties}
use Rattle.bounds.proofs.Bounds.{all_penalties_le}
use Rattle.bounds.proofs.Facts.{sound_facts}
use Rattle.settlement.specs.Grown.{Penalized}
use Rattle.settlement.proofs.Charged.{charged_small, charged_total}
use Rattle.settlement.proofs.PartyRows.{capital_row}
use Rattle.settlement.proofs.Rows.{row_as, row_one}
use Rattle.settlement.proofs.items.Penalties.pay.Goals as goal

pub total_of-requires : goal.total_of-requires
total_of-requires c =
    let d = c.args.self.now.day.now in
    let r = held d.book.now in
    let s = sound_facts r d.sound in
    let p = subst (λ (n : ℕ). Penalized r (take n c.args.self.now.amounts)) (sym c.accounts.ensures.value) c.args.self.now.penalized in
    record { few = omega (arith, p.long, s.few); small = charged_small r s _ p }

pub add-requires : goal.add-requires
add-requires c =
    let d = c.args.self.now.day.now in
    let r = held d.book.now in
    let s = sound_facts r d.sound in
    let p = subst (λ (n : ℕ). Penalized r (take n c.args.self.now.amounts)) (sym c.accounts.ensures.value) c.args.self.now.penalized in
    let e : to_z w64 (of_z w64 c.total_of.result) ≡ all_penalties r = to_z-of_z w64 c.total_of.result (record { sfits = c.total_of.type_inv }) ∙ c.total_of.ensures ∙ charged_total r s _ p in
    record { known = refl; before = omega (arith, c.requires 51); more = rw e (omega (arith, all_penalties_le r s r.heading.accounts)) }

pub returns : goal.returns
returns c =
    let d = c.args.self.now.day.now in
    let r = held d.book.now in
    let s = sound_facts r d.sound in
    let p = subst (λ (n : ℕ). Penalized r (take n c.args.self.now.amounts)) (sym c.accounts.ensures.value) c.args.self.now.penalized in
    let e : to_z w64 (of_z w64 c.total_of.result) ≡ all_penalties r = to_z-of_z w64 c.total_of.result (record { sfits = c.total_of.type_inv }) ∙ c.total_of.ensures ∙ charged_total r s _ p in
    row_as c.args.table.now c.add.new.table c.args.code _ _
    (λ q. ap (owned_by 51 q) e ∙ capital_row r.heading.accounts (all_penalties r) s.few q)
    (row_one c.args.table.now c.add.new.table c.args.code 51 _ c.add.ensures)
