use Rattle.std.proofs.Common.{◌≡◌, ℕ, ◌+◌, ◌-◌, ◌<◌, ◌≤◌, false, ℤ, ◌+ℤ◌, sym, ap, ◌∙◌, arith}
use Rattle.std.specs.List.{range_with_len}
use Rattle.book.specs.Books.{held}
use Rattle.codes.specs.Sums.{sum_over}
use Rattle.codes.proofs.Puts.{empty_cell}
use Rattle.amounts.specs.Amounts.{lacking}
use Rattle.bounds.proofs.Facts.{sound_facts}
use Rattle.settlement.specs.Days.{sheets}
use Rattle.settlement.specs.Sheets.{sheet}
use Rattle.settlement.proofs.Small.{none_then, sheets_le, sheets_more}
use Rattle.settlement.proofs.priced.PricedBook.add_sheets.Goals as goal

one_more : (f : ℕ → ℤ) (h : ℕ) → 1 ≤ h → sum_over f (range_with_len 1 (h - 1)) +ℤ f h ≡ sum_over f (range_with_len 1 h)
one_more f h l =
    let e : h - 1 + 1 ≡ h = omega arith in
    ap (λ k. sum_over f (range_with_len 1 (h - 1)) +ℤ f k) (sym e) ∙ sym (sheets_more f (h - 1)) ∙ ap (λ k. sum_over f (range_with_len 1 k)) e

pub loop-hour-init : goal.loop-hour-init
loop-hour-init g c = (λ code q. empty_cell c.args.table.now c.requires.empty code q, omega arith)

pub add_sheet-requires : goal.add_sheet-requires
add_sheet-requires g c =
    let r = held c.args.self.now.book.now in
    let s = sound_facts r c.args.self.now.sound in
    let h = c.loop-hour.hour in
    let f = g.R.Sharing.parts c.args.rule.now in
    let none : (k : ℕ) → 1 ≤ k → k < 1 + r.heading.hours → lacking r k ≡ false = none_then (lacking r) 1 r.heading.hours c.requires.borne in
    record {
      borne = (λ i. lacking (held (c.hour.ensures.day i).book.now) (c.hour.ensures.hour i)) ∙ none h (omega arith) (omega arith);
      room = λ code q. rw (c.loop-hour.invariant.0 code q) (omega (arith, sheets_le f (g.met.R.Sharing.fair c.args.rule.now) r s (h - 1) (λ k l m. none k l (omega arith)) code q));
    }

pub loop-hour-preserved : goal.loop-hour-preserved
loop-hour-preserved g c =
    let r = held c.args.self.now.book.now in
    let h = c.loop-hour.hour in
    let f = g.R.Sharing.parts c.args.rule.now in
    let next : h ≡ h + 1 - 1 = omega arith in (
      λ code q.
          c.add_sheet.ensures code q
          ∙ (λ i. c.loop-hour.invariant.0 code q i +ℤ sheet f (held (c.hour.ensures.day i).book.now) (c.hour.ensures.hour i) code q)
          ∙ one_more (λ scope. sheet f r scope code q) h (omega arith)
          ∙ ap (λ k. sheets f r (range_with_len 1 k) code q) next,
      omega arith,
    )

pub returns : goal.returns
returns g c =
    let r = held c.args.self.now.book.now in
    let n : c.loop-hour.hour - 1 ≡ r.heading.hours = omega arith in
    λ code q. c.loop-hour.invariant.0 code q ∙ ap (λ k. sheets (g.R.Sharing.parts c.args.rule.now) r (range_with_len 1 k) code q) n

-- after the last hour
pub returns-2 : goal.returns-2
returns-2 g c =
    let r = held c.args.self.now.book.now in
    let h = c.loop-hour.hour in
    let f = g.R.Sharing.parts c.args.rule.now in
    let last : h ≡ r.heading.hours = omega arith in
    λ code q.
    c.add_sheet.ensures code q
    ∙ (λ i. c.loop-hour.invariant.0 code q i +ℤ sheet f (held (c.hour.ensures.day i).book.now) (c.hour.ensures.hour i) code q)
    ∙ one_more (λ scope. sheet f r scope code q) h (omega arith)
    ∙ ap (λ k. sheets f r (range_with_len 1 k) code q) last
