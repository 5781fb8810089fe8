use Rattle.std.proofs.Common.{cond, eqb, pos, sym, ◌∙◌, arith, w64}
use Rattle.std.proofs.lemmas.Int.{to_z-of_z}
use Rattle.book.specs.Books.{held}
use Rattle.codes.specs.Sums.{sum_over}
use Rattle.valuation.specs.Terms.{reserve_term}
use Rattle.bounds.proofs.Bounds.{all_reserve, all_reserve_le, size_small}
use Rattle.bounds.proofs.Facts.{sound_facts}
use Rattle.settlement.proofs.priced.PricedHour.reserve_total.Goals as goal

pub sum_of-requires : goal.sum_of-requires
sum_of-requires c =
    let d = c.args.self.now.day.now in
    let s = sound_facts (held d.book.now) d.sound in
    record {
      few = rw c.as_slice.ensures.value (omega (arith, s.few_reserves));
      valid = rw c.as_slice.ensures.value s.reserves;
    }

pub returns : goal.returns
returns c =
    let d = c.args.self.now.day.now in
    let h = c.args.self.now.hour in
    let r = held d.book.now in
    let s = sound_facts r d.sound in
    let m = c.args.market in
    let e = to_z-of_z w64 c.sum_of.result (record { sfits = c.sum_of.type_inv }) ∙ c.sum_of.ensures
    ∙ (λ i. sum_over (λ x. cond (eqb x.hour (c.reserve_term-term.ensures.hour i)) (reserve_term (c.reserve_term-term.ensures.market i) x) (pos 0)) (c.as_slice.ensures.value i)) ∙ sym (all_reserve r s m h) in
    record { value = e; bound = rw e (omega (arith, all_reserve_le r s m h, size_small r s h)) }
