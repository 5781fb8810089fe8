use Rattle.std.proofs.Common.{◌≡◌, ◌-◌, cond, ◌&&◌, leb, length, get_or, pos, nat_abs, sym, ap, ◌∙◌, arith, w64, to_z, of_z}
use Rattle.std.proofs.lemmas.Int.{to_z-of_z}
use Rattle.book.specs.Books.{held}
use Rattle.sharing.specs.Shareable.{shareable}
use Rattle.sharing.specs.Signed.{signed_parts}
use Rattle.codes.specs.Codes.{basis_of}
use Rattle.codes.specs.declared.code.Basis.TheVariants.{Purchases}
use Rattle.amounts.specs.Amounts.{shared, weights}
use Rattle.bounds.proofs.Bounds.{shared_le, size_small, weights_length}
use Rattle.bounds.proofs.Facts.{sound_facts}
use Rattle.settlement.specs.Sheets.{part}
use Rattle.settlement.proofs.Lacking.{can_share, weights_of}
use Rattle.settlement.proofs.PartyRows.{accounts_have}
use Rattle.settlement.proofs.Rows.{row_as}
use Rattle.settlement.proofs.Shares.{part_le, parts_length}
use Rattle.settlement.proofs.priced.PricedHour.add_shared.Goals as goal

pub share_out-requires-clause-shareable : goal.share_out-requires-clause-shareable
share_out-requires-clause-shareable g c =
    let d = c.args.self.now.day.now in
    let h = c.args.self.now.hour in
    let r = held d.book.now in
    let code = c.args.code in
    let e : to_z w64 (of_z w64 c.shared_amount.result) ≡ shared r h code = to_z-of_z w64 c.shared_amount.result (record { sfits = c.shared_amount.type_inv }) ∙ c.shared_amount.ensures in
    (λ i. shareable (nat_abs (e i)) (c.weights.ensures i)) ∙ can_share r (sound_facts r d.sound) h code c.requires.basis c.requires.borne

pub add_listed-requires-clause-small : goal.add_listed-requires-clause-small
add_listed-requires-clause-small g c = λ k l.
    let d = c.args.self.now.day.now in
    let h = c.args.self.now.hour in
    let r = held d.book.now in
    let s = sound_facts r d.sound in
    let code = c.args.code in
    let f = g.R.Sharing.parts c.args.rule.now in
    let fair = g.met.R.Sharing.fair c.args.rule.now in
    let ok = can_share r s h code c.requires.basis c.requires.borne in
    let e : to_z w64 (of_z w64 c.shared_amount.result) ≡ shared r h code = to_z-of_z w64 c.shared_amount.result (record { sfits = c.shared_amount.type_inv }) ∙ c.shared_amount.ensures in
    let is : c.share_out.new.shares ≡ signed_parts f (shared r h code) (weights Purchases r h) = c.share_out.ensures ∙ (λ i. signed_parts f (e i) (c.weights.ensures i)) in
    let n : length c.share_out.new.shares ≡ length (weights Purchases r h) = ap length is ∙ parts_length f fair (shared r h code) (weights Purchases r h) ok in
    let m : nat_abs (get_or c.share_out.new.shares k (pos 0)) ≡ nat_abs (get_or (signed_parts f (shared r h code) (weights Purchases r h)) k (pos 0)) = ap (λ xs. nat_abs (get_or xs k (pos 0))) is in
    omega (arith, m, part_le f fair (shared r h code) (weights Purchases r h) ok k (omega (arith, l, n)), shared_le r s h code, size_small r s h)

pub returns : goal.returns
returns g c =
    let d = c.args.self.now.day.now in
    let h = c.args.self.now.hour in
    let r = held d.book.now in
    let s = sound_facts r d.sound in
    let code = c.args.code in
    let f = g.R.Sharing.parts c.args.rule.now in
    let fair = g.met.R.Sharing.fair c.args.rule.now in
    let ok = can_share r s h code c.requires.basis c.requires.borne in
    let e : to_z w64 (of_z w64 c.shared_amount.result) ≡ shared r h code = to_z-of_z w64 c.shared_amount.result (record { sfits = c.shared_amount.type_inv }) ∙ c.shared_amount.ensures in
    let by : c.share_out.new.shares ≡ signed_parts f (shared r h code) (weights Purchases r h) = c.share_out.ensures ∙ (λ i. signed_parts f (e i) (c.weights.ensures i)) in
    let is : c.share_out.new.shares ≡ signed_parts f (shared r h code) (weights (basis_of code) r h) = by ∙ ap (signed_parts f (shared r h code)) (sym (weights_of r s h code c.requires.basis)) in
    let n : length c.share_out.new.shares ≡ r.heading.accounts = ap length by ∙ parts_length f fair (shared r h code) (weights Purchases r h) ok ∙ weights_length r h in
    row_as c.args.table.now c.add_listed.new.table code _ _
    (λ q. (λ i. cond (leb 1 q && leb q (n i)) (get_or (is i) (q - 1) (pos 0)) (pos 0)) ∙ sym (accounts_have r.heading.accounts (part f r h code) q))
    c.add_listed.ensures
