use Rattle.std.proofs.Common.{ap, cond, eqb, pos, ◌∙◌}
use Rattle.book.specs.Books.{held}
use Rattle.codes.specs.Sums.{sum_over}
use Rattle.valuation.specs.Terms.{position_term}
use Rattle.valuation.specs.Valid.{ValidPosition}
use Rattle.amounts.specs.Amounts.{owned_by}
use Rattle.bounds.proofs.Facts.{sound_facts}
use Rattle.settlement.proofs.PartyRows.{account_row}
use Rattle.settlement.proofs.Rows.{row_as}
use Rattle.settlement.proofs.Sounds.{named, with_prices}
use Rattle.settlement.proofs.priced.PricedHour.add_energy.Goals as goal

pub add_each-requires : goal.add_each-requires
add_each-requires c =
    let d = c.args.self.now.day.now in
    let r = held d.book.now in
    let s = sound_facts r d.sound in
    record {
      few = rw c.as_slice.ensures.value s.few_positions;
      valid = rw c.as_slice.ensures.value (with_prices r s ValidPosition c.at_prices-term.result.term.prices.now.prices.now r.positions (ap (λ x. x.prices.now) c.at_prices-term.ensures.prices ∙ d.priced) s.positions);
      listed = rw c.as_slice.ensures.value (named r s (λ x. x.account) 32 r.positions s.few s.position_accounts);
      room = c.requires;
    }

pub returns : goal.returns
returns c =
    let d = c.args.self.now.day.now in
    let h = c.args.self.now.hour in
    let r = held d.book.now in
    let s = sound_facts r d.sound in
    let p = ap (λ x. x.prices.now) c.at_prices-term.ensures.prices ∙ d.priced in
    row_as c.args.table.now c.add_each.new.table c.args.code _ _
    (λ q. (λ i. sum_over (λ x. owned_by x.account q (cond (eqb x.hour (c.at_prices-term.ensures.hour i)) (position_term (p i) (c.at_prices-term.ensures.market i) x) (pos 0))) (c.as_slice.ensures.value i))
    ∙ account_row (λ x. x.account) (λ x. cond (eqb x.hour h) (position_term r.prices c.args.market x) (pos 0)) r.heading.accounts r.positions s.position_accounts q)
    c.add_each.ensures
