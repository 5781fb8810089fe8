use Rattle.std.proofs.Common.{◌≡◌, ◌+◌, ℤ, List, length, sym, ◌∙◌, subst, arith}
use Rattle.std.proofs.lemmas.List.{length-take, take_at}
use Rattle.book.specs.Books.{held}
use Rattle.codes.specs.Sums.{sum_over}
use Rattle.charges.specs.Items.{penalty_among}
use Rattle.bounds.proofs.Facts.{sound_facts}
use Rattle.settlement.specs.Grown.{Penalized}
use Rattle.settlement.proofs.Sounds.{named}
use Rattle.settlement.proofs.items.Penalties.of.Goals as goal

pub put_penalties-requires-clause-few : goal.put_penalties-requires-clause-few
put_penalties-requires-clause-few c = rw c.as_slice.ensures.value (sound_facts (held c.args.day.now.book.now) c.args.day.now.sound).few_reserves

pub put_penalties-requires-clause-failed : goal.put_penalties-requires-clause-failed
put_penalties-requires-clause-failed c = rw c.as_slice-2.ensures.value (sound_facts (held c.args.day.now.book.now) c.args.day.now.sound).few_failures

pub put_penalties-requires-clause-valid : goal.put_penalties-requires-clause-valid
put_penalties-requires-clause-valid c = rw c.as_slice.ensures.value (sound_facts (held c.args.day.now.book.now) c.args.day.now.sound).reserves

pub put_penalties-requires-clause-listed : goal.put_penalties-requires-clause-listed
put_penalties-requires-clause-listed c =
    let r = held c.args.day.now.book.now in
    let s = sound_facts r c.args.day.now.sound in
    rw c.as_slice.ensures.value (named r s (λ x. x.account) _ r.reserves (simp length-take (omega (arith, s.few, c.accounts-accounts.ensures.value))) s.reserve_accounts)

pub invariant_of-result : goal.invariant_of-result
invariant_of-result c =
    let r = held c.args.day.now.book.now in
    let ps = c.put_penalties.new.penalties in
    let long : length ps ≡ r.heading.accounts = c.put_penalties.auto.penalties ∙ simp length-take (omega (arith, c.accounts-accounts.ensures.few, c.accounts-accounts.ensures.value)) in
    record {
      penalized = subst (λ (xs : List ℤ). Penalized r xs) (sym (take_at ps _ _ long)) (record {
        long = long;
        each = λ k h. c.put_penalties.ensures k h ∙ (λ i. sum_over (penalty_among (c.as_slice.ensures.value i) (k + 1)) (c.as_slice-2.ensures.value i));
      });
    }
