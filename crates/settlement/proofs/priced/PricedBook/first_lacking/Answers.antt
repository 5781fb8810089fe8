use Rattle.std.proofs.Common.{◌≡◌, ◌+◌, Bool, cond, List, [], ◌∷◌, Some, None, Option, sym, refl, ap, ◌∙◌, arith, rules, tests}
use Rattle.std.specs.List.{find}
use Rattle.std.specs.Option.{option_map}
use Rattle.std.proofs.lemmas.Iterator.{YieldsList-from_range}
use Rattle.std.proofs.lemmas.Iterator.Search.{find_from_yields_List}
use Rattle.book.specs.Books.{held}
use Rattle.price_grid.specs.Found.{first_of}
use Rattle.amounts.specs.Amounts.{lacking}
use Rattle.settlement.proofs.priced.PricedBook.first_lacking.Goals as goal

same_option : {X : Type 0} (o : Option X) → option_map (λ x. x) o ≡ o
same_option None = refl
same_option (Some x) = refl

found_first : {X : Type 0} (p : X → Bool) (xs : List X) → find p xs ≡ first_of p xs
found_first p [] = refl
found_first p (x ∷ xs) = ap (cond (p x) (Some x)) (found_first p xs)

pub returns : goal.returns
returns c =
    let r = held c.args.self.now.book.now in
    let n = r.heading.hours in
    sym (same_option c.find.result)
    ∙ find_from_yields_List (lacking r) _ _ c.find.result c.find.ensures.ran (YieldsList-from_range 1 (n + 1) n refl (omega arith)) (λ x b q k. search (rules, tests))
    ∙ found_first (lacking r) _
