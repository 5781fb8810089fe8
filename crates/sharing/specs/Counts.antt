-- Counting the places that pass, and places in order of rank.
use Rattle.std.specs.Prelude.{◌≡◌, ℕ, zero, suc, ◌+◌, ◌-◌, ◌*◌, ◌<◌, ◌≤◌, Bool, true, false, cond, ◌&&◌, ◌||◌, ltb, ◌⊎◌, List, length, take, sum, ◌==◌, ◌≢◌, nat_eq, nat_lt, slice_index, slice_index_or, refl}
use Rattle.std.proofs.Math.Path.{sym}
use Rattle.std.proofs.Common.{ap, ◌∙◌, ⊎_elim, add-mul, add-zero, add-suc, zero-add, add-one, arith}
use Rattle.std.proofs.lemmas.List.Sums.{sum_by_more}
use Rattle.std.proofs.lemmas.Bool.{cases_Bool, cases_eq, cond-true, cond-false, eqb-true, lt-ltb, le-ltb}
use Rattle.std.proofs.lemmas.Bool.Decides.{nat_tests}
use Rattle.sharing.specs.LargestRemainder.{before, count, rank}

bit_mono : (a b : Bool) → (a ≡ true → b ≡ true) → cond a 1 0 ≤ cond b 1 0
bit_mono true b f = rw (f refl) (omega arith)
bit_mono false b f = omega arith

pub count_weaker : (n : ℕ) (p q : ℕ → Bool) → ((k : ℕ) → k < n → p k ≡ true → q k ≡ true) → count n p ≤ count n q
count_weaker zero p q f = omega arith
count_weaker (suc n) p q f = omega (arith, count_weaker n p q (λ k h. f k (omega arith)), bit_mono (p n) (q n) (f n (omega arith)))

pub count_all : (n : ℕ) → count n (λ _. true) ≡ n
count_all zero = refl
count_all (suc n) = omega (arith, count_all n)

pub count_none : (n : ℕ) (p : ℕ → Bool) → ((k : ℕ) → k < n → p k ≡ false) → count n p ≡ 0
count_none zero p f = refl
count_none (suc n) p f = omega (arith, count_none n p (λ k h. f k (omega arith)), cond-false {A = ℕ} (p n) 1 0 (f n (omega arith)))

-- one place more passes q
pub count_strict : (n : ℕ) (p q : ℕ → Bool) → ((k : ℕ) → k < n → p k ≡ true → q k ≡ true) → (k : ℕ) → k < n → p k ≡ false → q k ≡ true → count n p < count n q
count_strict zero p q f k h nay aye = omega arith
count_strict (suc n) p q f k h nay aye =
    ⊎_elim
    (λ (e : k ≡ n). omega (arith, count_weaker n p q (λ j g. f j (omega arith)), cond-false {A = ℕ} (p n) 1 0 (ap p (sym e) ∙ nay), cond-true {A = ℕ} (q n) 1 0 (ap q (sym e) ∙ aye)))
    (λ (ne : k ≡ n → ⊥). omega (arith, count_strict n p q (λ j g. f j (omega arith)) k (omega arith) nay aye, bit_mono (p n) (q n) (f n (omega arith))))
    (cases_eq k n)

-- no two places pass
pub count_one : (n : ℕ) (p : ℕ → Bool) → ((i j : ℕ) → i < n → j < n → p i ≡ true → p j ≡ true → i ≡ j) → count n p ≤ 1
count_one zero p f = omega arith
count_one (suc n) p f =
    ⊎_elim
    (λ (aye : p n ≡ true).
    let others : (k : ℕ) → k < n → p k ≡ false = λ k h. ⊎_elim (λ (t : p k ≡ true). let e : k ≡ n = f k n (omega arith) (omega arith) t aye in absurd (omega arith)) (λ e. e) (cases_Bool (p k)) in
    omega (arith, count_none n p others, cond-true {A = ℕ} (p n) 1 0 aye))
    (λ (nay : p n ≡ false). omega (arith, count_one n p (λ i j h g. f i j (omega arith) (omega arith)), cond-false {A = ℕ} (p n) 1 0 nay))
    (cases_Bool (p n))

pub count_split : (n : ℕ) (p q r : ℕ → Bool) → ((k : ℕ) → ◌≡◌ {A = ℕ} (cond (r k) 1 0) (cond (p k) 1 0 + cond (q k) 1 0)) → count n r ≡ count n p + count n q
count_split zero p q r f = refl
count_split (suc n) p q r f = omega (arith, count_split n p q r f, f n)

one_more : (x m : ℕ) → ◌≡◌ {A = ℕ} (cond (nat_lt x (suc m)) 1 0) (cond (nat_lt x m) 1 0 + cond (x == m) 1 0)
one_more x m = grind (arith, nat_tests)

-- n places with n different ranks below n: m of them are below m
module _ (n : ℕ) (f : ℕ → ℕ) (one : (i j : ℕ) → i < n → j < n → f i ≡ f j → i ≡ j) (low : (i : ℕ) → i < n → f i < n) where
  below : ℕ → ℕ
  below m = count n (λ i. ltb (f i) m)

  below_more : (m : ℕ) → below (suc m) ≤ below m + 1
  unfolding below
  below_more m =
      let at = count_one n (λ i. nat_eq (f i) m) (λ i j h g s t. one i j h g (eqb-true (f i) m s ∙ sym (eqb-true (f j) m t))) in
      omega (arith, count_split n (λ i. ltb (f i) m) (λ i. nat_eq (f i) m) (λ i. ltb (f i) (suc m)) (λ k. one_more (f k) m), at)

  below_none : below 0 ≡ 0
  unfolding below
  below_none = count_none n (λ i. ltb (f i) 0) (λ k h. le-ltb (f k) 0 (omega arith))

  below_all : below n ≡ n
  unfolding below
  below_all =
      let up = count_weaker n (λ _. true) (λ i. ltb (f i) n) (λ k h _. lt-ltb (f k) n (low k h)) in
      let down = count_weaker n (λ i. ltb (f i) n) (λ _. true) (λ k h _. refl) in
      omega (arith, up, down, count_all n)

  below_up : (m d : ℕ) → below (m + d) ≤ below m + d
  below_up m zero = rw add-zero (omega arith)
  below_up m (suc d) = rw add-suc (omega (arith, below_more (m + d), below_up m d))

  below_is : (m : ℕ) → m ≤ n → below m ≡ m
  below_is m h =
      let rest : m + (n - m) ≡ n = omega arith in
      let all : below n ≤ below m + (n - m) = rw rest at (below_up m (n - m)) in
      let front : below m ≤ below 0 + m = rw zero-add at (below_up 0 m) in
      omega (arith, all, front, below_none, below_all)

  pub ranked : (m : ℕ) → m ≤ n → count n (λ i. ltb (f i) m) ≡ m
  unfolding below
  ranked m h = below_is m h

-- the order of the places, of remainders x y z at places i j k
abbrev over : ℕ → ℕ → ℕ → ℕ → Bool
over x i y j = nat_lt x y || (x == y && nat_lt j i)

over_same : (x i : ℕ) → over x i x i ≡ false
over_same x i = grind (arith, nat_tests)

over_trans : (x i y j z k : ℕ) → over x i y j ≡ true → over y j z k ≡ true → over x i z k ≡ true
over_trans x i y j z k s t = grind (arith, nat_tests)

over_total : (x i y j : ℕ) → (i ≢ j) → (over x i y j ≡ true) ⊎ (over y j x i ≡ true)
over_total x i y j ne = grind (arith, nat_tests)

over_zero : (i y j : ℕ) → nat_lt 0 y ≡ true → over 0 i y j ≡ true
over_zero i y j s = grind (arith, nat_tests)

bit_mul : (x w : ℕ) → x ≤ w → x ≤ cond (nat_lt 0 x) 1 0 * w
bit_mul zero w h = omega arith
bit_mul (suc x) w h = rw (lt-ltb 0 (suc x) (omega arith)) (omega arith)

pub count_le : (n : ℕ) (p : ℕ → Bool) → count n p ≤ n
count_le n p = omega (arith, count_weaker n p (λ _. true) (λ k _ _. refl), count_all n)

module _ (rs : List ℕ) where
  rank_less : (i j : ℕ) → j < length rs → before rs i j ≡ true → rank rs j < rank rs i
  rank_less i j h s =
      count_strict (length rs) (before rs j) (before rs i)
      (λ k _ t. over_trans (slice_index rs i) i (slice_index rs j) j (slice_index rs k) k s t)
      j h (over_same (slice_index rs j) j) s

  rank_one : (i j : ℕ) → i < length rs → j < length rs → rank rs i ≡ rank rs j → i ≡ j
  rank_one i j h g e =
      ⊎_elim (λ s. s)
      (λ (ne : i ≡ j → ⊥). absurd (⊎_elim
      (λ (s : before rs i j ≡ true). omega (arith, rank_less i j g s))
      (λ (s : before rs j i ≡ true). omega (arith, rank_less j i h s))
      (over_total (slice_index rs i) i (slice_index rs j) j ne)))
      (cases_eq i j)

  rank_low : (i : ℕ) → i < length rs → rank rs i < length rs
  rank_low i h =
      let less = count_strict (length rs) (before rs i) (λ _. true) (λ k _ _. refl) i h (over_same (slice_index rs i) i) refl in
      omega (arith, less, count_all (length rs))

  -- as many places are among the first m
  pub first : (m : ℕ) → m ≤ length rs → count (length rs) (λ i. ltb (rank rs i) m) ≡ m
  first m h = ranked (length rs) (rank rs) rank_one rank_low m h

  -- a place with no remainder comes after all that have one
  pub zero_last : (i : ℕ) → slice_index rs i ≡ 0 → count (length rs) (λ j. ltb 0 (slice_index rs j)) ≤ rank rs i
  zero_last i e = count_weaker (length rs) (λ j. ltb 0 (slice_index rs j)) (before rs i) (λ k _ s. rw e (over_zero i (slice_index rs k) k s))

  -- no remainder is above w, so their sum is at most w for each place that has one
  pub sum_rests : (w : ℕ) → ((k : ℕ) → k < length rs → slice_index rs k ≤ w) → (n : ℕ) → n ≤ length rs → sum (take n rs) ≤ count n (λ j. ltb 0 (slice_index rs j)) * w
  sum_rests w f zero h = omega arith
  sum_rests w f (suc n) h =
      let x = slice_index_or rs n 0 in
      let c = count n (λ j. ltb 0 (slice_index rs j)) in
      let more : sum (take (suc n) rs) ≡ sum (take n rs) + x = rw add-one at (sum_by_more (λ x. x) rs n 0 h) in
      omega (arith, more, sum_rests w f n (omega arith), add-mul c (cond (nat_lt 0 x) 1 0) w, bit_mul x w (f n h))
