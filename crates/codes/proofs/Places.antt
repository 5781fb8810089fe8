-- The parties by their places.
use Rattle.std.proofs.Common.{Bor, slice_get, ◌≡◌, ℕ, zero, suc, ◌<◌, Bool, true, false, cond, ◌&&◌, eqb, List, [], ◌∷◌, length, get_or, IfSome, Some, None, Option, sym, refl, ap, ◌∙◌, subst, ⊎_elim, arith}
use Rattle.std.specs.Option.{option_copied, option_map}
use Rattle.std.proofs.lemmas.Bool.{and_parts, cases_eq, eqb-true, false≢true}
use Rattle.std.proofs.lemmas.Option.{slice_get_past, slice_get_read}
use Rattle.std.specs.Slice.{IsItemAt}
use Rattle.codes.specs.Parties.{party_numbers, party_place, place_in}

unfoldable pub same_place : Option ℕ → Option ℕ → Bool
same_place None None = true
same_place None (Some j) = false
same_place (Some i) None = false
same_place (Some i) (Some j) = eqb i j

pub same : (o p : Option ℕ) → same_place o p ≡ true → o ≡ p
unfolding same_place
same None None e = refl
same None (Some j) e = absurd (false≢true e)
same (Some i) None e = absurd (false≢true e)
same (Some i) (Some j) e = ap (λ n. Some n) (eqb-true i j e)

unfoldable pub all_below : ℕ → (ℕ → Bool) → Bool
all_below zero test = true
all_below (suc n) test = test n && all_below n test

pub each_below : (n : ℕ) (test : ℕ → Bool) → all_below n test ≡ true → (k : ℕ) → k < n → test k ≡ true
unfolding all_below
each_below zero test e k h = absurd (omega arith)
each_below (suc n) test e k h =
    let p = and_parts (test n) (all_below n test) e in
    ⊎_elim (λ (s : k ≡ n). ap test s ∙ p.0) (λ (ne : k ≡ n → ⊥). each_below n test p.1 k (omega (arith, ne))) (cases_eq k n)

pub place_below : (xs : List ℕ) (n : ℕ) → IfSome (place_in xs n) (λ i. i < length xs)
place_below [] n = tt
place_below (x ∷ xs) n = step (eqb n x) (place_in xs n) (place_below xs n)
  where
    step : (b : Bool) (o : Option ℕ) → IfSome o (λ i. i < length xs) → IfSome (cond b (Some 0) (option_map suc o)) (λ i. i < suc (length xs))
    step true o h = omega arith
    step false None h = tt
    step false (Some i) h = omega arith

pub place_holds : (xs : List ℕ) (n : ℕ) → IfSome (place_in xs n) (λ i. get_or xs i 0 ≡ n)
place_holds [] n = tt
place_holds (x ∷ xs) n = step (eqb n x) refl (place_in xs n) (place_holds xs n)
  where
    step : (b : Bool) → eqb n x ≡ b → (o : Option ℕ) → IfSome o (λ i. get_or xs i 0 ≡ n) → IfSome (cond b (Some 0) (option_map suc o)) (λ i. get_or (x ∷ xs) i 0 ≡ n)
    step true e o h = sym (eqb-true n x e)
    step false e None h = tt
    step false e (Some i) h = h

-- two parties at one place are one
pub same_party : (m n i : ℕ) → party_place m ≡ Some i → party_place n ≡ Some i → m ≡ n
same_party m n i e f = sym (at_place (party_place m) e (place_holds party_numbers m)) ∙ at_place (party_place n) f (place_holds party_numbers n)
  where
    at_place : {k : ℕ} (o : Option ℕ) → o ≡ Some i → IfSome o (λ i. get_or party_numbers i 0 ≡ k) → get_or party_numbers i 0 ≡ k
    at_place {k = k} None e h = let z : ◌≡◌ {A = ℕ} 0 1 = cc in absurd (omega arith)
    at_place {k = k} (Some j) e h = let s : j ≡ i = cc in ap (λ i. get_or party_numbers i 0) (sym s) ∙ h

pub found_at : (P : ℕ → Type 0) (o : Option ℕ) (i : ℕ) → o ≡ Some i → IfSome o P → P i
found_at P None i e h = let z : ◌≡◌ {A = ℕ} 0 1 = cc in absurd (omega arith)
found_at P (Some j) i e h = let s : j ≡ i = cc in subst P s h

-- what `get` lends is the item at the place, if there is one
pub slice_get_from_item : {X : Type 0} (xs : List X) (i : ℕ) (r : Option (Bor X)) → IsItemAt xs i r → option_copied r ≡ slice_get xs i
slice_get_from_item xs i None h = sym (slice_get_past xs i (h.3))
slice_get_from_item xs i (Some x) h = sym (slice_get_read xs (length xs) i x.now refl (h.3.0) h.1)
