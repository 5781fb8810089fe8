use Rattle.std.proofs.Common.{◌≡◌, ℕ, ◌+◌, ◌<◌, ◌≤◌, false, ◌+ℤ◌, None, Option, rules, sym, ◌∙◌, subst, arith}
use Rattle.book.specs.Books.{held}
use Rattle.amounts.specs.Amounts.{first_lacking, lacking}
use Rattle.bounds.proofs.Facts.{sound_facts}
use Rattle.settlement.specs.Days.{Filled, day_cell, item, lacking_fault}
use Rattle.settlement.proofs.Small.{none_then, sheets_le}
use Rattle.settlement.proofs.priced.PricedBook.settle.Goals as goal

pub add_items-requires : goal.add_items-requires
add_items-requires g c = λ code q.
    let r = held c.args.self.now.book.now in
    let e : first_lacking r ≡ None = search rules in
    let none : (k : ℕ) → 1 ≤ k → k < 1 + r.heading.hours → lacking r k ≡ false = none_then (lacking r) 1 r.heading.hours e in
    rw (c.add_sheets.ensures code q) (omega (arith, sheets_le (g.R.Sharing.parts c.args.rule.now) (g.met.R.Sharing.fair c.args.rule.now) r (sound_facts r c.args.self.now.sound) r.heading.hours none code q))

pub returns-clause-after : goal.returns-clause-after
returns-clause-after g c =
    let r = held c.args.self.now.book.now in
    let f = g.R.Sharing.parts c.args.rule.now in
    let e : first_lacking r ≡ None = search rules in
    subst (λ (o : Option ℕ). Filled (lacking_fault o) c.args.table.now c.add_items.new.table (day_cell f r)) (sym e)
    (λ code q. c.add_items.ensures f code q
    ∙ (λ i. c.add_sheets.ensures code q i +ℤ item f (held (c.of.ensures i).book.now) code q))
