-- The running rule is fair.
use Rattle.std.specs.Prelude.{◌≡◌, ℕ, zero, suc, ◌+◌, ◌-◌, ◌*◌, ◌/◌, ◌<◌, ◌≤◌, List, map, length, take, sum, slice_index, refl}
use Rattle.std.proofs.Common.{sym, ap, ◌∙◌, div-add-mod', mul-add, mul-div_cancel, mul-zero, add-one, arith}
use Rattle.std.proofs.Math.Nat.{div-zero, mul-sub, zero-div}
use Rattle.std.proofs.lemmas.Nat.{le-div, mod_below, mul-le}
use Rattle.std.proofs.lemmas.List.FromFn.{get_or-map-range_with_len, length-map-range_with_len, sum_by-map-range_with_len_more}
use Rattle.std.proofs.lemmas.List.{take_all}
use Rattle.std.proofs.lemmas.List.Sums.{sum_by_more}
use Rattle.std.specs.List.{range_with_len}
use Rattle.sharing.specs.Fair.{Fair}
use Rattle.sharing.specs.Running.{due, running}
use Rattle.sharing.specs.Admitted.{by_zero, facts}

-- a quotient does not fall as the dividend rises by d, and rises by less than one from d / w
step : (x d w : ℕ) → 0 < w → (x / w ≤ (x + d) / w) × (((x + d) / w - x / w) * w < d + w) × (d < ((x + d) / w - x / w) * w + w)
step x d w p =
    let low : x / w ≤ (x + d) / w = le-div (x / w) (x + d) w p (omega (arith, div-add-mod' x w)) in
    let split = mul-sub w ((x + d) / w) (x / w) in
    let before = div-add-mod' x w in
    let after = div-add-mod' (x + d) w in
    let low_w : x / w * w ≤ (x + d) / w * w = mul-le (x / w) w ((x + d) / w) w low (omega arith) in
    let r = mod_below x w p in
    let s = mod_below (x + d) w p in
    (low, omega arith, omega arith)

due_more : (a : ℕ) (ws : List ℕ) (i : ℕ) → i < length ws → due a ws (i + 1) ≡ (a * sum (take i ws) + a * slice_index ws i) / sum ws
due_more a ws i h = ap (λ n. (a * n) / sum ws) (sum_by_more (λ x. x) ws i 0 h) ∙ ap (λ n. n / sum ws) (mul-add _ _ _)

abbrev pub part : ℕ → List ℕ → ℕ → ℕ
part a ws i = due a ws (i + 1) - due a ws i

pub rising : (a : ℕ) (ws : List ℕ) (i : ℕ) → 0 < sum ws → i < length ws → due a ws i ≤ due a ws (i + 1)
rising a ws i p h = rw (due_more a ws i h) (step (a * sum (take i ws)) (a * slice_index ws i) (sum ws) p).0

near : (a : ℕ) (ws : List ℕ) (i : ℕ) → 0 < sum ws → i < length ws → (part a ws i * sum ws < a * slice_index ws i + sum ws) × (a * slice_index ws i < part a ws i * sum ws + sum ws)
near a ws i p h =
    let both = step (a * sum (take i ws)) (a * slice_index ws i) (sum ws) p in
    rw (due_more a ws i h) (both.1, both.2)

-- the parts of the first n places add up to what is due after n
sum_front : (a : ℕ) (ws : List ℕ) → 0 < sum ws → (n : ℕ) → n ≤ length ws → sum (map (part a ws) (range_with_len 0 n)) ≡ due a ws n
sum_front a ws p zero h = sym (ap (λ n. n / sum ws) (mul-zero a) ∙ zero-div (sum ws))
sum_front a ws p (suc n) h =
    let here : n < length ws = h in
    let more = sum_by-map-range_with_len_more (λ x. x) (part a ws) 0 n n (omega arith) in
    let up = rising a ws n p here in
    let so_far = sum_front a ws p n (omega arith) in
    let all : sum (map (part a ws) (range_with_len 0 (n + 1))) ≡ due a ws (n + 1) = omega (arith, more) in
    rw add-one at all

part_at : (a : ℕ) (ws : List ℕ) (i : ℕ) → i < length ws → slice_index (running a ws) i ≡ part a ws i
part_at a ws i h = get_or-map-range_with_len (part a ws) 0 (length ws) i i 0 h (omega arith)

-- after the last place the whole amount is due
due_all : (a : ℕ) (ws : List ℕ) → 0 < sum ws → due a ws (length ws) ≡ a
due_all a ws p = ap (λ v. (a * sum v) / sum ws) (take_all (length ws) ws (omega arith)) ∙ mul-div_cancel a p

-- with no weight nothing is due
due_none : (a : ℕ) (ws : List ℕ) (i : ℕ) → sum ws ≡ 0 → due a ws i ≡ 0
due_none a ws i z = ap (λ n. (a * sum (take i ws)) / n) z ∙ div-zero _

part_none : (a : ℕ) (ws : List ℕ) (i : ℕ) → sum ws ≡ 0 → part a ws i ≡ 0
part_none a ws i z = omega (arith, due_none a ws i z, due_none a ws (i + 1) z)

sum_none : (a : ℕ) (ws : List ℕ) → sum ws ≡ 0 → (n : ℕ) → sum (map (part a ws) (range_with_len 0 n)) ≡ 0
sum_none a ws z zero = refl
sum_none a ws z (suc n) =
    let more = sum_by-map-range_with_len_more (λ x. x) (part a ws) 0 n n (omega arith) in
    let all : sum (map (part a ws) (range_with_len 0 (n + 1))) ≡ 0 = omega (arith, sum_none a ws z n, part_none a ws n z) in
    rw add-one at all

pub running_fair : Fair running
running_fair = record {
  long = λ a ws s. length-map-range_with_len (part a ws) 0 (length ws);
  whole = λ a ws s. by_zero (sum ws)
      (λ z. sum_none a ws z (length ws) ∙ sym ((facts a ws s).borne z))
      (λ p. sum_front a ws p (length ws) (omega arith) ∙ due_all a ws p);
  under = λ a ws s p i h. rw (part_at a ws i h) (near a ws i p h).0;
  over = λ a ws s p i h. rw (part_at a ws i h) (near a ws i p h).1;
  zeros = λ a ws s z i h. part_at a ws i h ∙ part_none a ws i z;
}
