use Rattle.std.proofs.Common.{cond, eqb, arith, pos, ◌∙◌}
use Rattle.book.specs.Books.{held}
use Rattle.codes.specs.Sums.{sum_over}
use Rattle.valuation.specs.Terms.{reserve_term}
use Rattle.amounts.specs.Amounts.{owned_by}
use Rattle.bounds.proofs.Facts.{sound_facts}
use Rattle.settlement.proofs.PartyRows.{account_row}
use Rattle.settlement.proofs.Rows.{row_as}
use Rattle.settlement.proofs.Sounds.{named}
use Rattle.settlement.proofs.priced.PricedHour.add_reserve.Goals as goal

pub add_each-requires : goal.add_each-requires
add_each-requires c =
    let d = c.args.self.now.day.now in
    let r = held d.book.now in
    let s = sound_facts r d.sound in
    record {
      few = rw c.as_slice.ensures.value (omega (arith, s.few_reserves));
      valid = rw c.as_slice.ensures.value s.reserves;
      listed = rw c.as_slice.ensures.value (named r s (λ x. x.account) 32 r.reserves s.few s.reserve_accounts);
      room = c.requires;
    }

pub returns : goal.returns
returns c =
    let d = c.args.self.now.day.now in
    let h = c.args.self.now.hour in
    let r = held d.book.now in
    let s = sound_facts r d.sound in
    row_as c.args.table.now c.add_each.new.table c.args.code _ _
    (λ q. (λ i. sum_over (λ x. owned_by x.account q (cond (eqb x.hour (c.reserve_term-term.ensures.hour i)) (reserve_term (c.reserve_term-term.ensures.market i) x) (pos 0))) (c.as_slice.ensures.value i))
    ∙ account_row (λ x. x.account) (λ x. cond (eqb x.hour h) (reserve_term c.args.market x) (pos 0)) r.heading.accounts r.reserves s.reserve_accounts q)
    c.add_each.ensures
