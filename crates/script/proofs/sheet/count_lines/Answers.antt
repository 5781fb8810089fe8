use Rattle.std.proofs.Common.{◌≡◌, ℕ, ◌+◌, Bool, true, false, cond, not, eqb, nat_abs, sum_by, Some, None, Option, sym, refl, ap, ◌∙◌, arith, rules, tests}
use Rattle.std.proofs.lemmas.Iterator.{YieldsList-from_range}
use Rattle.std.proofs.lemmas.Iterator.Consumers.{YieldsList-from_filter, count_from_yields_List}
use Rattle.std.proofs.lemmas.List.Folds.{fold-map}
use Rattle.std.proofs.lemmas.List.Sums.{length-filter}
use Rattle.std.specs.List.{range_with_len}
use Rattle.codes.specs.Cells.{cell_at}
use Rattle.codes.specs.declared.table.TableCell.{TableCell}
use Rattle.script.specs.Sheets.{has_line, one_of}
use Rattle.script.proofs.sheet.count_lines.Goals as goal

one : (b : Bool) → ◌≡◌ {A = ℕ} (cond (not b) 1 0) (cond b 0 1)
one true = refl
one false = refl

one_is : (o : Option TableCell) → ◌≡◌ {A = ℕ} (cond (has_line o) 1 0) (one_of o)
one_is None = refl
one_is (Some c) = one (eqb (nat_abs c.amount) 0)

pub returns : goal.returns
returns c =
    let f = cell_at c.args.page.now in
    let places = range_with_len 0 c.args.count in
    count_from_yields_List c.filter.result c.count.result c.count.ensures.ran
    (YieldsList-from_filter _ (λ place. has_line (f place)) (YieldsList-from_range 0 c.args.count c.args.count (cc) (omega arith)) c.filter.ensures.closure (λ x b q k. search (rules, tests)))
    ∙ length-filter (λ place. has_line (f place)) places ∙ ap (λ g. sum_by g places) (λ i place. one_is (f place) i)
    ∙ sym (fold-map (λ a x. a + one_of x) f 0 places)
