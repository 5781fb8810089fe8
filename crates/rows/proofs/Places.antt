-- A search from the front.
use Rattle.std.proofs.Common.{◌≡◌, ℕ, suc, ◌+◌, Bool, true, false, cond, not, ltb, List, [], ◌∷◌, length, position, Some, None, Option, refl, ap, ◌∙◌, arith}
use Rattle.std.specs.Option.{option_map}
use Rattle.std.specs.List.{position_or_len}
use Rattle.rows.specs.Tables.{first_place}

further : (i n : ℕ) → cond {A = Option ℕ} (ltb (1 + i) (suc n)) (Some (1 + i)) None ≡ option_map suc (cond (ltb i n) (Some i) None)
further i n = grind arith

here : (n : ℕ) → cond {A = Option ℕ} (ltb 0 (suc n)) (Some 0) None ≡ Some 0
here n = grind arith

step : (b : Bool) (i n : ℕ) (o : Option ℕ) → cond (ltb i n) (Some i) None ≡ o
    → cond {A = Option ℕ} (ltb (cond (not b) (1 + i) 0) (suc n)) (Some (cond (not b) (1 + i) 0)) None ≡ cond b (Some 0) (option_map suc o)
step true i n o e = here n
step false i n o e = further i n ∙ ap (option_map suc) e

-- the first place that the library's search gives
pub first_place_is : {X : Type 0} (t : X → Bool) (xs : List X) → position t xs ≡ first_place t xs
first_place_is t [] = refl
first_place_is t (x ∷ xs) = step (t x) (position_or_len t xs) (length xs) (first_place t xs) (first_place_is t xs)
