use Rattle.std.proofs.Common.{cond, eqb, pos, ◌∙◌, arith, w64}
use Rattle.std.proofs.lemmas.Int.{to_z-of_z}
use Rattle.book.specs.Books.{held}
use Rattle.codes.specs.Sums.{sum_over}
use Rattle.valuation.specs.Terms.{imbalance_value}
use Rattle.valuation.specs.Valid.{ValidInterconnection}
use Rattle.bounds.proofs.Bounds.{values_le, size_small}
use Rattle.bounds.proofs.Facts.{sound_facts}
use Rattle.settlement.proofs.Sounds.{with_prices}
use Rattle.settlement.proofs.priced.PricedHour.imbalance_total.Goals as goal

pub sum_of-requires : goal.sum_of-requires
sum_of-requires c =
    let d = c.args.self.now.day.now in
    let r = held d.book.now in
    let s = sound_facts r d.sound in
    record {
      few = rw c.as_slice.ensures.value (omega (arith, s.few_interconnections));
      valid = rw c.as_slice.ensures.value (with_prices r s ValidInterconnection d.prices.prices.now r.interconnections d.priced s.interconnections);
    }

pub returns : goal.returns
returns c =
    let d = c.args.self.now.day.now in
    let h = c.args.self.now.hour in
    let r = held d.book.now in
    let s = sound_facts r d.sound in
    let e = to_z-of_z w64 c.sum_of.result (record { sfits = c.sum_of.type_inv }) ∙ c.sum_of.ensures
    ∙ (λ i. sum_over (λ x. cond (eqb x.hour h) (imbalance_value (d.priced i) x) (pos 0)) (c.as_slice.ensures.value i)) in
    record { value = e; bound = rw e (omega (arith, values_le r s h, size_small r s h)) }
