-- Prices put at their spots, and found by their places.
use Rattle.std.proofs.Common.{◌≡◌, ℕ, suc, Bool, true, false, cond, List, [], ◌∷◌, get_or, replicate, Some, None, Option, refl, ⊎_elim}
use Rattle.std.specs.Option.{option_map}
use Rattle.std.proofs.lemmas.List.{get_or-replicate, get_or_past, length-replicate}
use Rattle.std.proofs.lemmas.Bool.{cases_lt}
use Rattle.rows.specs.Tables.{first_place}
use Rattle.price_grid.specs.Found.{first_of}

pub none_in : {X : Type 0} (n k : ℕ) → get_or {A = Option X} (replicate n None) k None ≡ None
none_in n k = ⊎_elim (λ h. get_or-replicate n k None None h) (λ h. get_or_past (replicate n None) k None (simp length-replicate h)) (cases_lt k n)

-- the first of a list, by its place
pub by_place : {X : Type 0} (test : X → Bool) (xs : List X) (d : X) → option_map (λ i. get_or xs i d) (first_place test xs) ≡ first_of test xs
by_place test [] d = refl
by_place {X = X} test (x ∷ xs) d = step (test x) (first_place test xs) (by_place test xs d)
  where
    step : (b : Bool) (o : Option ℕ) {p : Option X} → option_map (λ i. get_or xs i d) o ≡ p → option_map (λ i. get_or (x ∷ xs) i d) (cond b (Some 0) (option_map suc o)) ≡ cond b (Some x) p
    step true o e = refl
    step false None e = e
    step false (Some i) e = e
