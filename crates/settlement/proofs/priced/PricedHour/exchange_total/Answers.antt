use Rattle.std.proofs.Common.{ap, cond, eqb, pos, ◌∙◌, arith, w64}
use Rattle.std.proofs.lemmas.Int.{to_z-of_z}
use Rattle.book.specs.Books.{held}
use Rattle.codes.specs.Sums.{sum_over}
use Rattle.valuation.specs.Terms.{exchange_term}
use Rattle.valuation.specs.Valid.{ValidInterconnection}
use Rattle.bounds.proofs.Bounds.{exchanges_le, size_small}
use Rattle.bounds.proofs.Facts.{sound_facts}
use Rattle.settlement.proofs.Sounds.{with_prices}
use Rattle.settlement.proofs.priced.PricedHour.exchange_total.Goals as goal

pub sum_of-requires : goal.sum_of-requires
sum_of-requires c =
    let d = c.args.self.now.day.now in
    let r = held d.book.now in
    let s = sound_facts r d.sound in
    record {
      few = rw c.as_slice.ensures.value (omega (arith, s.few_interconnections));
      valid = rw c.as_slice.ensures.value (with_prices r s ValidInterconnection c.at_prices-term.result.term.prices.now.prices.now r.interconnections (ap (λ x. x.prices.now) c.at_prices-term.ensures.prices ∙ d.priced) s.interconnections);
    }

pub returns : goal.returns
returns c =
    let d = c.args.self.now.day.now in
    let h = c.args.self.now.hour in
    let r = held d.book.now in
    let s = sound_facts r d.sound in
    let m = c.args.market in
    let p = ap (λ x. x.prices.now) c.at_prices-term.ensures.prices ∙ d.priced in
    let e = to_z-of_z w64 c.sum_of.result (record { sfits = c.sum_of.type_inv }) ∙ c.sum_of.ensures
    ∙ (λ i. sum_over (λ x. cond (eqb x.hour (c.at_prices-term.ensures.hour i)) (exchange_term (p i) (c.at_prices-term.ensures.market i) x) (pos 0)) (c.as_slice.ensures.value i)) in
    record { value = e; bound = rw e (omega (arith, exchanges_le r s m h, size_small r s h)) }
