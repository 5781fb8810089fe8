use Rattle.std.proofs.Common.{neg_ℤ, ◌∙◌, arith}
use Rattle.book.specs.Books.{held}
use Rattle.codes.specs.Sums.{sum_over}
use Rattle.valuation.specs.Terms.{fine_mils}
use Rattle.amounts.specs.Amounts.{owned_by}
use Rattle.bounds.proofs.Facts.{sound_facts}
use Rattle.settlement.proofs.PartyRows.{account_row, accounts_same, negated}
use Rattle.settlement.proofs.Rows.{row_as}
use Rattle.settlement.proofs.Sounds.{named}
use Rattle.settlement.proofs.priced.PricedBook.charge_fines.Goals as goal

pub add_each-requires : goal.add_each-requires
add_each-requires c =
    let r = held c.args.self.now.book.now in
    let s = sound_facts r c.args.self.now.sound in
    record {
      few = rw c.as_slice.ensures.value (omega (arith, s.few_fines));
      valid = rw c.as_slice.ensures.value s.fines;
      listed = rw c.as_slice.ensures.value (named r s (λ x. x.account) 32 r.fines s.few s.fine_accounts);
      room = c.requires;
    }

pub returns : goal.returns
returns c =
    let r = held c.args.self.now.book.now in
    let s = sound_facts r c.args.self.now.sound in
    row_as c.args.table.now c.add_each.new.table c.args.code _ _
    (λ q. (λ i. sum_over (λ x. owned_by x.account q (neg_ℤ (fine_mils x))) (c.as_slice.ensures.value i))
    ∙ account_row (λ x. x.account) (λ x. neg_ℤ (fine_mils x)) r.heading.accounts r.fines s.fine_accounts q
    ∙ accounts_same r.heading.accounts _ _ (λ a l h. negated (λ x. x.account) fine_mils a r.fines) q)
    c.add_each.ensures
