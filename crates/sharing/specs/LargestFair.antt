-- The largest-remainder rule is fair.
use Rattle.std.specs.Prelude.{◌≡◌, ℕ, zero, suc, ◌+◌, ◌-◌, ◌*◌, ◌/◌, ◌%◌, ◌<◌, ◌≤◌, false, cond, ltb, ◌⊎◌, List, [], ◌∷◌, map, length, take, sum_by, sum, nat_lt, slice_index, refl}
use Rattle.std.proofs.Common.{sym, ap, ◌∙◌, inl, inr, ⊎_elim, add-mul, mul-add, div-add-mod', mul-div_cancel, mul_comm, zero-mul, one-mul, add-one, arith}
use Rattle.std.proofs.Math.Nat.{mul-sub, div-zero}
use Rattle.std.specs.List.{range_with_len}
use Rattle.std.proofs.lemmas.Nat.{le-div, mod_below}
use Rattle.std.proofs.lemmas.List.FromFn.{length-map-range_with_len, get_or-map-range_with_len, sum_by-map-range_with_len_more}
use Rattle.std.proofs.lemmas.List.{take_all, length-map, get_or-map}
use Rattle.std.proofs.lemmas.List.Sums.{sum_by-cons, sum_by_more, sum-map}
use Rattle.std.proofs.lemmas.Bool.{cases_lt, cases_eq, cond-true, cond-false, lt-ltb, le-ltb}
use Rattle.sharing.specs.Fair.{Fair}
use Rattle.sharing.specs.LargestRemainder.{count, floors, largest_remainder, missing, rank, remainders}
use Rattle.sharing.specs.Admitted.{by_zero, facts}
use Rattle.sharing.specs.Counts.{count_le, count_none, first, zero_last, sum_rests}

-- floors and remainders make up the products
balance : (a w : ℕ) (xs : List ℕ) → sum_by (λ x. (a * x) / w) xs * w + sum_by (λ x. (a * x) % w) xs ≡ a * sum xs
balance a w [] = omega arith
balance a w (x ∷ xs) =
    let f = λ (y : ℕ). (a * y) / w in
    let r = λ (y : ℕ). (a * y) % w in
    rw (sum_by-cons f x xs, sum_by-cons r x xs, sum_by-cons (λ y. y) x xs)
    (omega (arith, add-mul (f x) (sum_by f xs) w, mul-add a x (sum xs), div-add-mod' (a * x) w, balance a w xs))

-- one place more, or none, as it ranks
abbrev pub extra : ℕ → List ℕ → ℕ → ℕ
extra a ws i = cond (nat_lt (rank (remainders a ws) i) (missing a ws)) 1 0

abbrev pub part : ℕ → List ℕ → ℕ → ℕ
part a ws i = slice_index (floors a ws) i + extra a ws i

balanced : (a : ℕ) (ws : List ℕ) → sum (floors a ws) * sum ws + sum (remainders a ws) ≡ a * sum ws
balanced a ws = rw (sum-map (λ x. (a * x) / sum ws) ws, sum-map (λ x. (a * x) % sum ws) ws) (balance a (sum ws) ws)

-- W times the missing mils is what the remainders add up to
pub missing_remainders : (a : ℕ) (ws : List ℕ) → missing a ws * sum ws ≡ sum (remainders a ws)
missing_remainders a ws =
    let spread : missing a ws * sum ws ≡ sum ws * a - sum ws * sum (floors a ws) = mul_comm (missing a ws) (sum ws) ∙ mul-sub (sum ws) a (sum (floors a ws)) in
    omega (arith, spread, balanced a ws)

pub floors_le : (a : ℕ) (ws : List ℕ) → 0 < sum ws → sum (floors a ws) ≤ a
floors_le a ws p =
    let low : sum (floors a ws) * sum ws ≤ a * sum ws = omega (arith, balanced a ws) in
    omega (arith, le-div (sum (floors a ws)) (a * sum ws) (sum ws) p low, mul-div_cancel a p)

pub remainder_at : (a : ℕ) (ws : List ℕ) (i : ℕ) → i < length ws → slice_index (remainders a ws) i ≡ (a * slice_index ws i) % sum ws
remainder_at a ws i h = get_or-map (λ x. (a * x) % sum ws) ws i 0 0 h

pub floor_at : (a : ℕ) (ws : List ℕ) (i : ℕ) → i < length ws → slice_index (floors a ws) i ≡ (a * slice_index ws i) / sum ws
floor_at a ws i h = get_or-map (λ x. (a * x) / sum ws) ws i 0 0 h

pub remainders_long : (a : ℕ) (ws : List ℕ) → length (remainders a ws) ≡ length ws
remainders_long a ws = length-map ws (λ x. (a * x) % sum ws)

pub floors_long : (a : ℕ) (ws : List ℕ) → length (floors a ws) ≡ length ws
floors_long a ws = length-map ws (λ x. (a * x) / sum ws)

-- no more mils are missing than there are places with a remainder
pub missing_few : (a : ℕ) (ws : List ℕ) → 0 < sum ws → missing a ws ≤ count (length (remainders a ws)) (λ j. ltb 0 (slice_index (remainders a ws) j))
missing_few a ws p =
    let w = sum ws in
    let rs = remainders a ws in
    let c = count (length rs) (λ j. ltb 0 (slice_index rs j)) in
    let each : (k : ℕ) → k < length rs → slice_index rs k ≤ w = λ k h. let g : k < length ws = omega (arith, remainders_long a ws) in omega (arith, remainder_at a ws k g, mod_below (a * slice_index ws k) w p) in
    let all : sum rs ≤ c * w = rw (take_all (length rs) rs (omega arith)) at (sum_rests rs w each (length rs) (omega arith)) in
    let low : missing a ws * w ≤ c * w = omega (arith, missing_remainders a ws) in
    omega (arith, le-div (missing a ws) (c * w) w p low, mul-div_cancel c p)

-- a place that gets one more has a remainder
pub extra_remainder : (a : ℕ) (ws : List ℕ) (i : ℕ) → 0 < sum ws → i < length ws → rank (remainders a ws) i < missing a ws → 0 < (a * slice_index ws i) % sum ws
extra_remainder a ws i p h less =
    ⊎_elim
    (λ (e : (a * slice_index ws i) % sum ws ≡ 0). absurd (omega (arith, less, missing_few a ws p, zero_last (remainders a ws) i (remainder_at a ws i h ∙ e))))
    (λ (ne : (a * slice_index ws i) % sum ws ≡ 0 → ⊥). omega arith)
    (cases_eq ((a * slice_index ws i) % sum ws) 0)

-- the parts of the first n places
sum_front : (a : ℕ) (ws : List ℕ) (n : ℕ) → n ≤ length ws → sum (map (part a ws) (range_with_len 0 n)) ≡ sum (take n (floors a ws)) + count n (λ i. ltb (rank (remainders a ws) i) (missing a ws))
sum_front a ws zero h = refl
sum_front a ws (suc n) h =
    let p = λ (i : ℕ). ltb (rank (remainders a ws) i) (missing a ws) in
    let more = sum_by-map-range_with_len_more (λ x. x) (part a ws) 0 n n (omega arith) in
    let within : n < length (floors a ws) = omega (arith, floors_long a ws) in
    let floor = sum_by_more (λ x. x) (floors a ws) n 0 within in
    let all : sum (map (part a ws) (range_with_len 0 (n + 1))) ≡ sum (take (n + 1) (floors a ws)) + (count n p + extra a ws n) = omega (arith, more, floor, sum_front a ws n (omega arith)) in
    rw add-one at all

near_by : (x w e : ℕ) → 0 < w → (e ≡ 0) ⊎ ((e ≡ 1) × (0 < x % w)) → ((x / w + e) * w < x + w) × (x < (x / w + e) * w + w)
near_by x w e p which =
    let split = add-mul (x / w) e w in
    let whole = div-add-mod' x w in
    let rest = mod_below x w p in
    ⊎_elim
    (λ (z : e ≡ 0). let none : e * w ≡ 0 = ap (λ n. n * w) z ∙ zero-mul w in (omega arith, omega arith))
    (λ (o : (e ≡ 1) × (0 < x % w)). let one : e * w ≡ w = ap (λ n. n * w) o.0 ∙ one-mul w in let some = o.1 in (omega arith, omega arith))
    which

pub near : (a : ℕ) (ws : List ℕ) (i : ℕ) → 0 < sum ws → i < length ws → (part a ws i * sum ws < a * slice_index ws i + sum ws) × (a * slice_index ws i < part a ws i * sum ws + sum ws)
near a ws i p h =
    let k = rank (remainders a ws) i in
    let m = missing a ws in
    let which : (extra a ws i ≡ 0) ⊎ ((extra a ws i ≡ 1) × (0 < (a * slice_index ws i) % sum ws)) =
    ⊎_elim
    (λ (less : k < m). inr (cond-true {A = ℕ} (nat_lt k m) 1 0 (lt-ltb k m less), extra_remainder a ws i p h less))
    (λ (more : m ≤ k). inl (cond-false {A = ℕ} (nat_lt k m) 1 0 (le-ltb k m more)))
    (cases_lt k m) in
    rw (floor_at a ws i h) (near_by (a * slice_index ws i) (sum ws) (extra a ws i) p which)

-- with no weight all floors are 0, and with no amount nothing is missing
idle : (a w : ℕ) → w ≡ 0 → (xs : List ℕ) → sum_by (λ x. (a * x) / w) xs ≡ 0
idle a w z [] = refl
idle a w z (x ∷ xs) = rw (sum_by-cons (λ y. (a * y) / w) x xs) (omega (arith, idle a w z xs, ap (λ n. (a * x) / n) z ∙ div-zero (a * x)))

no_extra : (a : ℕ) (ws : List ℕ) (i : ℕ) → a ≡ 0 → nat_lt (rank (remainders a ws) i) (missing a ws) ≡ false
no_extra a ws i z = le-ltb (rank (remainders a ws) i) (missing a ws) (omega arith)

pub part_at : (a : ℕ) (ws : List ℕ) (i : ℕ) → i < length ws → slice_index (largest_remainder a ws) i ≡ part a ws i
part_at a ws i h = get_or-map-range_with_len (part a ws) 0 (length ws) i i 0 h (omega arith)

sum_floors : (a : ℕ) (ws : List ℕ) → sum (take (length ws) (floors a ws)) ≡ sum (floors a ws)
sum_floors a ws = ap sum (take_all (length ws) (floors a ws) (omega (arith, floors_long a ws)))

sum_some : (a : ℕ) (ws : List ℕ) → 0 < sum ws → sum (largest_remainder a ws) ≡ a
sum_some a ws p =
    let few : missing a ws ≤ length (remainders a ws) = omega (arith, missing_few a ws p, count_le (length (remainders a ws)) (λ j. ltb 0 (slice_index (remainders a ws) j))) in
    let given : count (length ws) (λ i. ltb (rank (remainders a ws) i) (missing a ws)) ≡ missing a ws = ap (λ n. count n (λ i. ltb (rank (remainders a ws) i) (missing a ws))) (sym (remainders_long a ws)) ∙ first (remainders a ws) (missing a ws) few in
    omega (arith, sum_front a ws (length ws) (omega arith), sum_floors a ws, given, floors_le a ws p)

sum_idle : (a : ℕ) (ws : List ℕ) → sum ws ≡ 0 → a ≡ 0 → sum (largest_remainder a ws) ≡ a
sum_idle a ws z e =
    let none = count_none (length ws) (λ i. ltb (rank (remainders a ws) i) (missing a ws)) (λ k _. no_extra a ws k e) in
    omega (arith, sum_front a ws (length ws) (omega arith), sum_floors a ws, none, sum-map (λ x. (a * x) / sum ws) ws, idle a (sum ws) z ws)

pub largest_remainder_fair : Fair largest_remainder
largest_remainder_fair = record {
  long = λ a ws s. length-map-range_with_len (part a ws) 0 (length ws);
  whole = λ a ws s. by_zero (sum ws) (λ z. sum_idle a ws z ((facts a ws s).borne z)) (λ p. sum_some a ws p);
  under = λ a ws s p i h. rw (part_at a ws i h) (near a ws i p h).0;
  over = λ a ws s p i h. rw (part_at a ws i h) (near a ws i p h).1;
  zeros = λ a ws s z i h.
      part_at a ws i h ∙ omega (arith, floor_at a ws i h, ap (λ n. (a * slice_index ws i) / n) z ∙ div-zero (a * slice_index ws i), cond-false {A = ℕ} (nat_lt (rank (remainders a ws) i) (missing a ws)) 1 0 (no_extra a ws i ((facts a ws s).borne z)));
}
