-- Laws of sums over lists.
use Rattle.std.proofs.Common.{◌≡◌, ℕ, zero, suc, ◌+◌, ◌<◌, ◌≤◌, true, false, eqb, List, [], ◌∷◌, ◌++◌, length, get_or, take, ℤ, pos, ◌+ℤ◌, neg_ℤ, sym, refl, ap, ◌∙◌, ⊎_elim, arith}
use borrow.Author.Differences.{ints}
use lib.IntN.{+ℤ_assoc, +ℤ_idl, +ℤ_idr}
use Rattle.std.specs.List.{range_with_len, AllByRecursion}
use Rattle.std.proofs.lemmas.List.{take_more}
use Rattle.std.proofs.lemmas.Bool.{cases_eq, eq-eqb, ne_eqb}
use Rattle.codes.specs.Sums.{sum_over}
use Rattle.amounts.specs.Amounts.{owned_by}

pub sum_join : {X : Type 0} (f : X → ℤ) (xs ys : List X) → sum_over f (xs ++ ys) ≡ sum_over f xs +ℤ sum_over f ys
sum_join f [] ys = sym (+ℤ_idl (sum_over f ys))
sum_join f (x ∷ xs) ys = ap (λ z. f x +ℤ z) (sum_join f xs ys) ∙ sym (+ℤ_assoc (f x) (sum_over f xs) (sum_over f ys))

pub sum_push : {X : Type 0} (f : X → ℤ) (xs : List X) (x : X) → sum_over f (xs ++ x ∷ []) ≡ sum_over f xs +ℤ f x
sum_push f xs x = sum_join f xs (x ∷ []) ∙ ap (λ z. sum_over f xs +ℤ z) (+ℤ_idr (f x))

pub sum_more : {X : Type 0} (f : X → ℤ) (xs : List X) (i : ℕ) (d : X) → i < length xs → sum_over f (take (i + 1) xs) ≡ sum_over f (take i xs) +ℤ f (get_or xs i d)
sum_more f xs i d h = ap (sum_over f) (take_more xs i d h) ∙ sum_push f (take i xs) (get_or xs i d)

pub sum_same : {X : Type 0} (f g : X → ℤ) → ((x : X) → f x ≡ g x) → (xs : List X) → sum_over f xs ≡ sum_over g xs
sum_same f g h [] = refl
sum_same f g h (x ∷ xs) = λ i. h x i +ℤ sum_same f g h xs i

pub sum_zero : {X : Type 0} (xs : List X) → sum_over (λ (x : X). pos 0) xs ≡ pos 0
sum_zero [] = refl
sum_zero (x ∷ xs) = ap (λ z. pos 0 +ℤ z) (sum_zero xs)

pub sum_add : {X : Type 0} (f g : X → ℤ) (xs : List X) → sum_over (λ x. f x +ℤ g x) xs ≡ sum_over f xs +ℤ sum_over g xs
sum_add f g [] = refl
sum_add f g (x ∷ xs) = omega (arith, ints, sum_add f g xs)

pub sum_neg : {X : Type 0} (f : X → ℤ) (xs : List X) → sum_over (λ x. neg_ℤ (f x)) xs ≡ neg_ℤ (sum_over f xs)
sum_neg f [] = refl
sum_neg f (x ∷ xs) = omega (arith, ints, sum_neg f xs)

-- an owner past the numbers counted
none_from : (owner : ℕ) (v : ℤ) (a n : ℕ) → owner < a → sum_over (λ k. owned_by owner k v) (range_with_len a n) ≡ pos 0
none_from owner v a zero h = refl
none_from owner v a (suc n) h =
    let e : eqb owner a ≡ false = ne_eqb owner a (λ p. omega arith) in
    rw e (ap (λ z. pos 0 +ℤ z) (none_from owner v (a + 1) n (omega arith)))

-- an owner among the numbers counted has the whole amount
pub one_owner : (owner : ℕ) (v : ℤ) (a n : ℕ) → a ≤ owner → owner < a + n → sum_over (λ k. owned_by owner k v) (range_with_len a n) ≡ v
one_owner owner v a zero h k = absurd (omega arith)
one_owner owner v a (suc n) h k =
    ⊎_elim
    (λ (e : owner ≡ a). let t : eqb owner a ≡ true = eq-eqb owner a e in rw t (ap (λ z. v +ℤ z) (none_from owner v (a + 1) n (omega arith)) ∙ +ℤ_idr v))
    (λ (ne : owner ≡ a → ⊥). let t : eqb owner a ≡ false = ne_eqb owner a ne in rw t (+ℤ_idl _ ∙ one_owner owner v (a + 1) n (omega (arith, ne)) (omega arith)))
    (cases_eq owner a)

-- a sum by owners is the whole sum, if every owner is counted
pub by_owner : {X : Type 0} (owner : X → ℕ) (f : X → ℤ) (a n : ℕ) (xs : List X) → AllByRecursion (λ x. (a ≤ owner x) × (owner x < a + n)) xs
    → sum_over (λ k. sum_over (λ x. owned_by (owner x) k (f x)) xs) (range_with_len a n) ≡ sum_over f xs
by_owner owner f a n [] h = sum_zero (range_with_len a n)
by_owner owner f a n (x ∷ xs) h =
    sum_add (λ k. owned_by (owner x) k (f x)) (λ k. sum_over (λ y. owned_by (owner y) k (f y)) xs) (range_with_len a n)
    ∙ (λ i. one_owner (owner x) (f x) a n h.0.0 h.0.1 i +ℤ by_owner owner f a n xs h.1 i)

-- one that owns nothing in the list
pub owns_nothing : {X : Type 0} (owner : X → ℕ) (f : X → ℤ) (k : ℕ) (xs : List X) → AllByRecursion (λ x. owner x ≡ k → ⊥) xs → sum_over (λ x. owned_by (owner x) k (f x)) xs ≡ pos 0
owns_nothing owner f k [] h = refl
owns_nothing owner f k (x ∷ xs) h =
    let e : eqb (owner x) k ≡ false = ne_eqb (owner x) k h.0 in
    rw e (ap (λ z. pos 0 +ℤ z) (owns_nothing owner f k xs h.1))
