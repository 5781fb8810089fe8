-- The penalties of the accounts as a list.
use Rattle.std.proofs.Common.{◌≡◌, ℕ, ◌+◌, ◌<◌, ◌≤◌, List, [], ◌∷◌, map, length, get_or, ℤ, pos, ◌+ℤ◌, nat_abs, sym, refl, ap, ◌∙◌, arith}
use Rattle.std.specs.List.{range_with_len}
use Rattle.std.proofs.lemmas.List.FromFn.{get_or-map-range_with_len, length-map-range_with_len}
use Rattle.std.proofs.lemmas.List.{ext_get_or}
use Rattle.dayfile.specs.Records.{Records}
use Rattle.codes.specs.Sums.{sum_over}
use Rattle.valuation.specs.Valid.{Sound}
use Rattle.charges.specs.Items.{all_penalties, penalties}
use Rattle.bounds.proofs.Bounds.{penalties_le}
use Rattle.settlement.specs.Grown.{Penalized}

sum_map : {X : Type 0} (f : X → ℤ) (xs : List X) → sum_over (λ (z : ℤ). z) (map f xs) ≡ sum_over f xs
sum_map f [] = refl
sum_map f (x ∷ xs) = ap (λ z. f x +ℤ z) (sum_map f xs)

module _ (r : Records) (s : Sound r) (xs : List ℤ) (p : Penalized r xs) where
  pub charged_small : (k : ℕ) → k < length xs → nat_abs (get_or xs k (pos 0)) ≤ 16000000000000000
  charged_small k h = rw (p.each k h) (penalties_le r s (k + 1))

  pub charged_total : sum_over (λ (z : ℤ). z) xs ≡ all_penalties r
  charged_total =
      let n = r.heading.accounts in
      ap (sum_over (λ (z : ℤ). z))
      (ext_get_or (pos 0) xs (map (penalties r) (range_with_len 1 n)) (p.long ∙ sym (length-map-range_with_len (penalties r) 1 n))
      (λ k h. p.each k h ∙ sym (get_or-map-range_with_len (penalties r) 1 n k (k + 1) (pos 0) (omega (arith, h, p.long)) (omega arith))))
      ∙ sum_map (penalties r) (range_with_len 1 n)
