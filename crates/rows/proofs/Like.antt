-- Records that differ in nothing that a table looks at.
use Rattle.std.proofs.Common.{◌≡◌, ℕ, zero, suc, Bool, true, false, cond, not, leb, List, [], ◌∷◌, ◌++◌, length, get_or, set, is_some, Some, sym, refl, ap, ◌∙◌}
use Rattle.std.proofs.lemmas.Bool.{and_parts, and_from, not-true}
use Rattle.std.specs.Option.{option_map}
use Rattle.dayfile.specs.declared.heading.Heading.{Heading}
use Rattle.rows.specs.Tables.{Terms, first_place, row_refusal, sound_table, taken_after}
use Rattle.rows.proofs.Taken.{tested}

-- the second can stand where the first stands
pub record StandsFor {X : Type 0} (t : Terms X) (h : Heading) (x y : X) : Type 0 where
  pub seen : (z : X) → t.alike z x ≡ t.alike z y
  pub sees : (z : X) → t.alike x z ≡ t.alike y z
  pub ranged : t.in_range x ≡ true → t.in_range y ≡ true
  pub named : t.listed h x ≡ t.listed h y

ranged_from : (ranged named keyed full : Bool) → is_some (tested ranged named keyed full) ≡ false → ranged ≡ true
ranged_from true named keyed full e = refl
ranged_from false named keyed full e = sym e

module _ {X : Type 0} (t : Terms X) (h : Heading) where
  abbrev Like : List X → List X → Type 0
  Like [] [] = Unit {0}
  Like [] (y ∷ ys) = ⊥
  Like (x ∷ xs) [] = ⊥
  Like (x ∷ xs) (y ∷ ys) = StandsFor t h x y × Like xs ys

  like_place : (x y : X) (xs ys : List X) → StandsFor t h x y → Like xs ys → first_place (t.alike x) xs ≡ first_place (t.alike y) ys
  like_place x y [] [] s l = refl
  like_place x y [] (b ∷ ys) s l = absurd l
  like_place x y (a ∷ xs) [] s l = absurd l
  like_place x y (a ∷ xs) (b ∷ ys) s l =
      let e : t.alike x a ≡ t.alike y b = s.sees a ∙ l.0.seen y in
      let f : first_place (t.alike x) xs ≡ first_place (t.alike y) ys = like_place x y xs ys s l.1 in
      ap (λ test. cond test (Some 0) (option_map suc (first_place (t.alike x) xs))) e ∙ ap (λ o. cond (t.alike y b) (Some 0) (option_map suc o)) f

  like_length : (xs ys : List X) → Like xs ys → length xs ≡ length ys
  like_length [] [] l = refl
  like_length [] (b ∷ ys) l = absurd l
  like_length (a ∷ xs) [] l = absurd l
  like_length (a ∷ xs) (b ∷ ys) l = ap suc (like_length xs ys l.1)

  like_push : (xs ys : List X) (x y : X) → Like xs ys → StandsFor t h x y → Like (xs ++ x ∷ []) (ys ++ y ∷ [])
  like_push [] [] x y l s = (s, tt)
  like_push [] (b ∷ ys) x y l s = absurd l
  like_push (a ∷ xs) [] x y l s = absurd l
  like_push (a ∷ xs) (b ∷ ys) x y l s = (l.0, like_push xs ys x y l.1 s)

  like_refused : (xs ys : List X) (x y : X) → Like xs ys → StandsFor t h x y
      → is_some (row_refusal t h xs x) ≡ false → is_some (row_refusal t h ys y) ≡ false
  like_refused xs ys x y l s e =
      let old = ranged_from (t.in_range x) (t.listed h x) (is_some (first_place (t.alike x) xs)) (leb t.room (length xs)) e in
      let range : t.in_range y ≡ t.in_range x = s.ranged old ∙ sym old in
      ap (λ r. is_some (tested r (t.listed h y) (is_some (first_place (t.alike y) ys)) (leb t.room (length ys)))) range
      ∙ ap (λ n. is_some (tested (t.in_range x) n (is_some (first_place (t.alike y) ys)) (leb t.room (length ys)))) (sym s.named)
      ∙ ap (λ o. is_some (tested (t.in_range x) (t.listed h x) (is_some o) (leb t.room (length ys)))) (sym (like_place x y xs ys s l))
      ∙ ap (λ n. is_some (tested (t.in_range x) (t.listed h x) (is_some (first_place (t.alike x) xs)) (leb t.room n))) (sym (like_length xs ys l))
      ∙ e

  like_taken : (bs cs xs ys : List X) → Like bs cs → Like xs ys → taken_after t h bs xs ≡ true → taken_after t h cs ys ≡ true
  like_taken bs cs [] [] k l e = refl
  like_taken bs cs [] (y ∷ ys) k l e = absurd l
  like_taken bs cs (x ∷ xs) [] k l e = absurd l
  like_taken bs cs (x ∷ xs) (y ∷ ys) k l e =
      let p = and_parts (not (is_some (row_refusal t h bs x))) (taken_after t h (bs ++ x ∷ []) xs) e in
      and_from _ _ (ap not (like_refused bs cs x y k l.0 (not-true _ p.0)))
      (like_taken (bs ++ x ∷ []) (cs ++ y ∷ []) xs ys (like_push bs cs x y k l.0) l.1 p.1)

  itself : (x : X) → StandsFor t h x x
  itself x = record { seen = λ z. refl; sees = λ z. refl; ranged = λ e. e; named = refl }

  like_same : (xs : List X) → Like xs xs
  like_same [] = tt
  like_same (x ∷ xs) = (itself x, like_same xs)

  like_set : (xs : List X) (i : ℕ) (y d : X) → StandsFor t h (get_or xs i d) y → Like xs (set xs i y)
  like_set [] i y d s = tt
  like_set (x ∷ xs) zero y d s = (s, like_same xs)
  like_set (x ∷ xs) (suc i) y d s = (itself x, like_set xs i y d s)

  -- a sound table stays sound where one record is replaced by another that can stand for it
  pub sound_set : (xs : List X) (i : ℕ) (y d : X) → StandsFor t h (get_or xs i d) y → sound_table t h xs ≡ true → sound_table t h (set xs i y) ≡ true
  sound_set xs i y d s e = like_taken [] [] xs (set xs i y) tt (like_set xs i y d s) e
