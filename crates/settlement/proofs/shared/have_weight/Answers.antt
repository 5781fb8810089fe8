use Rattle.std.proofs.Common.{◌≡◌, ℕ, ◌+◌, ◌<◌, ◌≤◌, ◌||◌, ltb, List, [], ◌∷◌, sum, sym, refl, ap, ◌∙◌, ⊎_elim, arith, rules, tests}
use Rattle.std.specs.List.{list_any}
use Rattle.std.proofs.lemmas.Bool.{cases_lt, le-ltb, lt-ltb}
use Rattle.std.proofs.lemmas.List.Sums.{sum_by-cons}
use Rattle.std.proofs.lemmas.Iterator.{YieldsList-from_slice}
use Rattle.std.proofs.lemmas.Iterator.Search.{any_from_yields_List}
use Rattle.settlement.proofs.shared.have_weight.Goals as goal

some_weight : (xs : List ℕ) → list_any (ltb 0) xs ≡ ltb 0 (sum xs)
some_weight [] = refl
some_weight (x ∷ xs) =
    ap (λ b. ltb 0 x || b) (some_weight xs)
    ∙ ⊎_elim
    (λ (z : x < 1).
    let e : x + sum xs ≡ sum xs = omega arith in
    ap (λ b. b || ltb 0 (sum xs)) (le-ltb 0 x (omega arith)) ∙ sym (ap (ltb 0) (sum_by-cons (λ n. n) x xs ∙ e)))
    (λ (z : 1 ≤ x).
    ap (λ b. b || ltb 0 (sum xs)) (lt-ltb 0 x z) ∙ sym (ap (ltb 0) (sum_by-cons (λ n. n) x xs) ∙ lt-ltb 0 (x + sum xs) (omega arith)))
    (cases_lt x 1)

pub returns : goal.returns
returns c =
    let xs = c.args.weights.now in
    any_from_yields_List (ltb 0) _ _ _ c.any.ensures.ran (YieldsList-from_slice xs cc) (λ x b q k. search (rules, tests)) ∙ some_weight xs
