-- One place of an array grown.
use Rattle.std.proofs.Common.{◌≡◌, ℕ, ◌+◌, ◌-◌, ◌<◌, ◌≤◌, Bool, true, false, cond, eqb, ◌≢◌, List, length, get_or, set, ℤ, pos, ◌+ℤ◌, nat_abs, sym, ap, ◌∙◌, ⊎_elim, arith, get_or-set_other, get_or-set_same}
use lib.IntN.{+ℤ_idr}
use Rattle.std.proofs.lemmas.Bool.{cases_eq, cond-false, cond-true, eq-eqb, ne_eqb}
use Rattle.amounts.specs.Amounts.{owned_by}

module _ (owner k : ℕ) (low : 1 ≤ owner) where
  place_other : (owner ≡ k + 1 → ⊥) → k ≢ owner - 1
  place_other ne e = ne (omega arith)

  pub grown_atℤ : (ws : List ℤ) (v : ℤ) → owner ≤ length ws → get_or (set ws (owner - 1) (get_or ws (owner - 1) (pos 0) +ℤ v)) k (pos 0) ≡ get_or ws k (pos 0) +ℤ owned_by owner (k + 1) v
  grown_atℤ ws v high =
      ⊎_elim
      (λ (e : owner ≡ k + 1).
      let at : owner - 1 ≡ k = omega arith in
      let lt : k < length ws = omega arith in
      ap (λ i. get_or (set ws i (get_or ws i (pos 0) +ℤ v)) k (pos 0)) at ∙ get_or-set_same ws k (get_or ws k (pos 0) +ℤ v) (pos 0) lt ∙ ap (λ n. get_or ws k (pos 0) +ℤ n) (sym (cond-true (eqb owner (k + 1)) v (pos 0) (eq-eqb owner (k + 1) e))))
      (λ (ne : owner ≡ k + 1 → ⊥).
      get_or-set_other ws (owner - 1) k (get_or ws (owner - 1) (pos 0) +ℤ v) (pos 0) (place_other ne) ∙ sym (ap (λ n. get_or ws k (pos 0) +ℤ n) (cond-false (eqb owner (k + 1)) v (pos 0) (ne_eqb owner (k + 1) ne)) ∙ +ℤ_idr (get_or ws k (pos 0))))
      (cases_eq owner (k + 1))

pub cond_le : (b : Bool) (v m : ℕ) → v ≤ m → cond b v 0 ≤ m
cond_le true v m h = h
cond_le false v m h = omega arith

pub owned_le : (owner k : ℕ) (v : ℤ) (m : ℕ) → nat_abs v ≤ m → nat_abs (owned_by owner k v) ≤ m
owned_le owner k v m h = pick (eqb owner k)
  where
    pick : (b : Bool) → nat_abs (cond b v (pos 0)) ≤ m
    pick true = h
    pick false = omega arith
