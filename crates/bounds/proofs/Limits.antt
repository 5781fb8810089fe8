-- How large sums can be.
use Rattle.std.proofs.Common.{◌≡◌, ℕ, zero, suc, ◌+◌, ◌*◌, ◌<◌, ◌≤◌, Bool, true, false, cond, eqb, List, [], ◌∷◌, length, ℤ, pos, ◌+ℤ◌, ◌-ℤ◌, neg_ℤ, nat_abs, sum_by, sym, refl, ap, ◌∙◌, ⊎_elim, add-mul, zero-mul, arith}
use borrow.Author.Differences.{ints}
use Rattle.std.specs.List.{range_with_len, AllByRecursion}
use Rattle.std.proofs.lemmas.List.Sums.{sum_by-cons}
use Rattle.std.proofs.lemmas.Bool.{cases_eq, eq-eqb, ne_eqb}
use Rattle.codes.specs.Sums.{sum_over}

pub nat_abs_add : (a b : ℤ) → nat_abs (a +ℤ b) ≤ nat_abs a + nat_abs b
nat_abs_add a b = omega (arith, ints)

pub neg_le : (z : ℤ) (n : ℕ) → nat_abs z ≤ n → nat_abs (neg_ℤ z) ≤ n
neg_le z n h = omega (arith, ints)

pub sub_le : (y z : ℤ) (m n : ℕ) → nat_abs y ≤ m → nat_abs z ≤ n → nat_abs (y -ℤ z) ≤ m + n
sub_le y z m n h k = omega (arith, ints)

-- a sum is at most the sum of what bounds its terms
pub sum_le : {X : Type 0} (f : X → ℤ) (g : X → ℕ) (xs : List X) → AllByRecursion (λ x. nat_abs (f x) ≤ g x) xs → nat_abs (sum_over f xs) ≤ sum_by g xs
sum_le f g [] h = omega arith
sum_le f g (x ∷ xs) h = omega (arith, nat_abs_add (f x) (sum_over f xs), h.0, sum_le f g xs h.1, sum_by-cons g x xs)

pub all_any : {X : Type 0} (P : X → Type 0) → ((x : X) → P x) → (xs : List X) → AllByRecursion P xs
all_any P f [] = tt
all_any P f (x ∷ xs) = (f x, all_any P f xs)

pub none_by : {Y : Type 0} (ys : List Y) → sum_by (λ (y : Y). 0) ys ≡ 0
none_by [] = refl
none_by {Y = Y} (y ∷ ys) = omega (arith, sum_by-cons {X = Y} (λ _. 0) y ys, none_by ys)

pub sum_by_add : {Y : Type 0} (f g : Y → ℕ) (ys : List Y) → sum_by (λ y. f y + g y) ys ≡ sum_by f ys + sum_by g ys
sum_by_add f g [] = refl
sum_by_add f g (y ∷ ys) = omega (arith, sum_by-cons (λ y. f y + g y) y ys, sum_by-cons f y ys, sum_by-cons g y ys, sum_by_add f g ys)

pub sum_by_same : {X : Type 0} (f g : X → ℕ) → ((x : X) → f x ≡ g x) → (xs : List X) → sum_by f xs ≡ sum_by g xs
sum_by_same f g h [] = refl
sum_by_same f g h (x ∷ xs) = sum_by-cons f x xs ∙ (λ i. h x i + sum_by_same f g h xs i) ∙ sym (sum_by-cons g x xs)

pub sum_by_mono : {X : Type 0} (f g : X → ℕ) → ((x : X) → f x ≤ g x) → (xs : List X) → sum_by f xs ≤ sum_by g xs
sum_by_mono f g h [] = omega arith
sum_by_mono f g h (x ∷ xs) = omega (arith, sum_by-cons f x xs, sum_by-cons g x xs, h x, sum_by_mono f g h xs)

-- sums over two lists, in either order
pub swap : {X Y : Type 0} (g : X → Y → ℕ) (xs : List X) (ys : List Y) → sum_by (λ x. sum_by (g x) ys) xs ≡ sum_by (λ y. sum_by (λ x. g x y) xs) ys
swap g [] ys = sym (none_by ys)
swap g (x ∷ xs) ys =
    sum_by-cons (λ x. sum_by (g x) ys) x xs ∙ ap (λ n. sum_by (g x) ys + n) (swap g xs ys) ∙ sym (sum_by_add (g x) (λ y. sum_by (λ x. g x y) xs) ys)
    ∙ sum_by_same _ _ (λ y. sym (sum_by-cons (λ x. g x y) x xs)) ys

abbrev only : ℕ → ℕ → ℕ → ℕ
only key v k = cond (eqb key k) v 0

no_hit : (key v a n : ℕ) → key < a → sum_by (only key v) (range_with_len a n) ≡ 0
no_hit key v a zero h = refl
no_hit key v a (suc n) h =
    let e : eqb key a ≡ false = ne_eqb key a (λ p. omega arith) in
    let z : only key v a ≡ 0 = rw e refl in
    omega (arith, sum_by-cons (only key v) a (range_with_len (a + 1) n), z, no_hit key v (a + 1) n (omega arith))

one_hit : (key v a n : ℕ) → sum_by (only key v) (range_with_len a n) ≤ v
one_hit key v a zero = omega arith
one_hit key v a (suc n) =
    ⊎_elim
    (λ (e : key ≡ a).
    let t : eqb key a ≡ true = eq-eqb key a e in
    let z : only key v a ≡ v = rw t refl in
    omega (arith, sum_by-cons (only key v) a (range_with_len (a + 1) n), z, no_hit key v (a + 1) n (omega arith)))
    (λ (ne : key ≡ a → ⊥).
    let t : eqb key a ≡ false = ne_eqb key a ne in
    let z : only key v a ≡ 0 = rw t refl in
    omega (arith, sum_by-cons (only key v) a (range_with_len (a + 1) n), z, one_hit key v (a + 1) n))
    (cases_eq key a)

-- what each key has, over all keys counted, is at most the whole
pub by_key_le : {X : Type 0} (key : X → ℕ) (v : X → ℕ) (c a n : ℕ) (xs : List X) → AllByRecursion (λ x. v x ≤ c) xs → sum_by (λ k. sum_by (λ x. cond (eqb (key x) k) (v x) 0) xs) (range_with_len a n) ≤ length xs * c
by_key_le key v c a n [] h = omega (arith, none_by (range_with_len a n))
by_key_le key v c a n (x ∷ xs) h =
    let f : ℕ → ℕ = λ k. sum_by (λ x. cond (eqb (key x) k) (v x) 0) xs in
    let e : sum_by (λ k. sum_by (λ x. cond (eqb (key x) k) (v x) 0) (x ∷ xs)) (range_with_len a n) ≡ sum_by (only (key x) (v x)) (range_with_len a n) + sum_by f (range_with_len a n) =
    sum_by_same _ _ (λ k. sum_by-cons (λ y. cond (eqb (key y) k) (v y) 0) x xs) (range_with_len a n) ∙ sum_by_add (only (key x) (v x)) f (range_with_len a n) in
    omega (arith, e, one_hit (key x) (v x) a n, h.0, by_key_le key v c a n xs h.1)

pub counted_le : (b : Bool) (v : ℤ) (c : ℕ) → nat_abs v ≤ c → nat_abs (cond b v (pos 0)) ≤ cond b c 0
counted_le true v c h = h
counted_le false v c h = omega arith

pub owned_counted_le : (a b : Bool) (v : ℤ) (c : ℕ) → nat_abs v ≤ c → nat_abs (cond a (cond b v (pos 0)) (pos 0)) ≤ cond b c 0
owned_counted_le true b v c h = counted_le b v c h
owned_counted_le false true v c h = omega arith
owned_counted_le false false v c h = omega arith

pub const_le : {X : Type 0} (p : X → Bool) (c : ℕ) (xs : List X) → sum_by (λ x. cond (p x) c 0) xs ≤ length xs * c
const_le p c [] = omega arith
const_le p c (x ∷ xs) = omega (arith, sum_by-cons (λ x. cond (p x) c 0) x xs, at_most (p x), const_le p c xs)
  where
    at_most : (b : Bool) → cond b c 0 ≤ c
    at_most true = omega arith
    at_most false = omega arith

cond_times : (b : Bool) (c : ℕ) → cond b c 0 ≡ cond b 1 0 * c
cond_times true c = omega arith
cond_times false c = sym (zero-mul c)

pub times_by : {X : Type 0} (p : X → Bool) (c : ℕ) (xs : List X) → sum_by (λ x. cond (p x) c 0) xs ≡ sum_by (λ x. cond (p x) 1 0) xs * c
times_by p c [] = sym (zero-mul c)
times_by p c (x ∷ xs) = omega (arith, sum_by-cons (λ x. cond (p x) c 0) x xs, sum_by-cons (λ x. cond (p x) 1 0) x xs, times_by p c xs, cond_times (p x) c, add-mul (cond (p x) 1 0) (sum_by (λ x. cond (p x) 1 0) xs) c, ap (λ n. n * c) (sum_by-cons (λ x. cond (p x) 1 0) x xs))
