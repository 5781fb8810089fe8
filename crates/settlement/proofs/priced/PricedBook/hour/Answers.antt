use Rattle.std.proofs.Common.{◌≡◌, length, sym, ◌∙◌, arith}
use Rattle.std.proofs.lemmas.List.{length-take, take_at}
use Rattle.book.specs.Books.{held}
use Rattle.valuation.specs.Valid.{Listed}
use Rattle.amounts.specs.Buying.{bought_sums}
use Rattle.bounds.proofs.Facts.{all_map, sound_facts}
use Rattle.settlement.proofs.priced.PricedBook.hour.Goals as goal

pub put_purchases-requires : goal.put_purchases-requires
put_purchases-requires c =
    let r = held c.args.self.now.book.now in
    let s = sound_facts r c.args.self.now.sound in
    record {
      few = rw c.as_slice.ensures.value s.few_positions;
      valid = rw c.as_slice.ensures.value s.positions;
      listed = rw c.as_slice.ensures.value
          (all_map (λ x. Listed r x.account) _ (λ x p. (p.0, simp length-take (omega (arith, s.few, p.1)))) r.positions s.position_accounts);
    }

pub invariant_of-result : goal.invariant_of-result
invariant_of-result c =
    let r = held c.args.self.now.book.now in
    let s = sound_facts r c.args.self.now.sound in
    let k = c.accounts.result in
    let long : length c.put_purchases.new.weights ≡ k = c.put_purchases.auto.weights ∙ simp length-take (omega (arith, s.few)) in
    record {
      weighed = take_at c.put_purchases.new.weights _ _ (long ∙ c.accounts.ensures.value) ∙ c.put_purchases.ensures
          ∙ (λ i. bought_sums c.args.hour ((sym c.put_purchases.auto.weights ∙ long ∙ c.accounts.ensures.value) i) (c.as_slice.ensures.value i));
    }
