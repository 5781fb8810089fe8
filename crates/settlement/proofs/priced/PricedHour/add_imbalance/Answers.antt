use Rattle.std.proofs.Common.{cond, eqb, ℤ, pos, neg_ℤ, ◌∙◌, arith}
use Rattle.dayfile.specs.declared.record.Interconnection.{Interconnection}
use Rattle.book.specs.Books.{held}
use Rattle.codes.specs.Parties.{system_party}
use Rattle.codes.specs.Sums.{sum_over}
use Rattle.valuation.specs.Terms.{imbalance_term}
use Rattle.valuation.specs.Valid.{ValidInterconnection}
use Rattle.amounts.specs.Amounts.{owned_by}
use Rattle.bounds.proofs.Facts.{all_map, sound_facts}
use Rattle.settlement.proofs.PartyRows.{negated, system_row, systems_same}
use Rattle.settlement.proofs.Rows.{row_as}
use Rattle.settlement.proofs.priced.PricedHour.add_imbalance.Goals as goal

pub add_each-requires : goal.add_each-requires
add_each-requires c =
    let d = c.args.self.now.day.now in
    let s = sound_facts (held d.book.now) d.sound in
    record {
      few = rw c.as_slice.ensures.value (omega (arith, s.few_interconnections));
      valid = rw c.as_slice.ensures.value s.interconnections;
      listed = rw c.as_slice.ensures.value s.interconnections;
      room = c.requires;
    }

pub returns : goal.returns
returns c =
    let d = c.args.self.now.day.now in
    let h = c.args.self.now.hour in
    let r = held d.book.now in
    let s = sound_facts r d.sound in
    let f : Interconnection → ℤ = λ x. cond (eqb x.hour h) (imbalance_term x) (pos 0) in
    row_as c.args.table.now c.add_each.new.table c.args.code _ _
    (λ q. (λ i. sum_over (λ x. owned_by (system_party x.system) q (neg_ℤ (f x))) (c.as_slice.ensures.value i))
    ∙ system_row (λ x. x.system) (λ x. neg_ℤ (f x)) r.heading.accounts r.interconnections s.few
    (all_map ValidInterconnection _ (λ x v. (v.first, v.last)) r.interconnections s.interconnections) q
    ∙ systems_same r.heading.accounts _ _ (λ s. negated (λ x. x.system) f s r.interconnections) q)
    c.add_each.ensures
