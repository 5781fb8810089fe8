-- The parts of a signed amount under a fair rule.
use Rattle.std.proofs.Common.{◌≡◌, ℕ, zero, suc, ◌+◌, ◌*◌, ◌<◌, ◌≤◌, true, List, length, get_or, ℤ, pos, negsuc, ◌-ℤ◌, ◌*ℤ◌, neg_ℤ, nat_abs, sum, sym, refl, ap, ◌∙◌, zero-mul, arith}
use borrow.Author.Differences.{ints}
use Rattle.std.proofs.lemmas.List.{get_or-map, length-map}
use Rattle.std.proofs.lemmas.List.Sums.{get_or-le-sum_by}
use Rattle.sharing.specs.Fair.{Fair}
use Rattle.sharing.specs.Shareable.{shareable}
use Rattle.sharing.specs.Signed.{signed_parts, with_sign_of}

nat_abs_neg : (n : ℕ) → nat_abs (neg_ℤ (pos n)) ≡ n
nat_abs_neg zero = refl
nat_abs_neg (suc n) = refl

nat_abs_signed : (z : ℤ) (p : ℕ) → nat_abs (with_sign_of z p) ≡ p
nat_abs_signed (pos a) p = refl
nat_abs_signed (negsuc a) p = nat_abs_neg p

neg_mulℤ : (p w : ℕ) → neg_ℤ (pos p) *ℤ pos w ≡ neg_ℤ (pos (p * w))
neg_mulℤ zero w = ap (λ n. pos n) (zero-mul w) ∙ sym (ap (λ n. neg_ℤ (pos n)) (zero-mul w))
neg_mulℤ (suc p) w = refl

near_pos : (x y w : ℕ) → x < y + w → y < x + w → nat_abs (pos x -ℤ pos y) < w
near_pos x y w p q = omega (arith, ints)

near_neg : (x y w : ℕ) → x < y + w → y < x + w → nat_abs (neg_ℤ (pos x) -ℤ neg_ℤ (pos y)) < w
near_neg x y w p q = omega (arith, ints)

near_signed : (z : ℤ) (p v w : ℕ) → p * w < nat_abs z * v + w → nat_abs z * v < p * w + w → nat_abs (with_sign_of z p *ℤ pos w -ℤ z *ℤ pos v) < w
near_signed (pos a) p v w g h = near_pos (p * w) (a * v) w g h
near_signed (negsuc a) p v w g h = rw (neg_mulℤ p w) (near_neg (p * w) (suc a * v) w g h)

module _ (f : ℕ → List ℕ → List ℕ) (fair : Fair f) (z : ℤ) (ws : List ℕ) (s : shareable (nat_abs z) ws ≡ true) where
  pub parts_length : length (signed_parts f z ws) ≡ length ws
  parts_length = length-map (f (nat_abs z) ws) (with_sign_of z) ∙ fair.long (nat_abs z) ws s

  part_at : (q : ℕ) → q < length ws → get_or (signed_parts f z ws) q (pos 0) ≡ with_sign_of z (get_or (f (nat_abs z) ws) q 0)
  part_at q h = get_or-map (with_sign_of z) (f (nat_abs z) ws) q 0 (pos 0) (omega (arith, fair.long (nat_abs z) ws s))

  -- a part is at most the amount
  pub part_le : (q : ℕ) → q < length ws → nat_abs (get_or (signed_parts f z ws) q (pos 0)) ≤ nat_abs z
  part_le q h =
      let e : nat_abs (get_or (signed_parts f z ws) q (pos 0)) ≡ get_or (f (nat_abs z) ws) q 0 = ap nat_abs (part_at q h) ∙ nat_abs_signed z (get_or (f (nat_abs z) ws) q 0) in
      omega (arith, get_or-le-sum_by (λ x. x) (f (nat_abs z) ws) q 0 (omega (arith, fair.long (nat_abs z) ws s)), fair.whole (nat_abs z) ws s)

  -- a part is less than one mil from its exact proportion
  pub part_near : 0 < sum ws → (q : ℕ) → q < length ws → nat_abs (get_or (signed_parts f z ws) q (pos 0) *ℤ pos (sum ws) -ℤ z *ℤ pos (get_or ws q 0)) < sum ws
  part_near some q h =
      rw (part_at q h)
      (near_signed z (get_or (f (nat_abs z) ws) q 0) (get_or ws q 0) (sum ws) (fair.under (nat_abs z) ws s some q h) (fair.over (nat_abs z) ws s some q h))
