-- A signed amount that is shared by its magnitude.
use Rattle.std.proofs.Common.{◌≡◌, ℕ, ◌+◌, true, List, [], ◌∷◌, map, ℤ, pos, negsuc, ◌+ℤ◌, neg_ℤ, nat_abs, fold, sum, sym, refl, ap, ◌∙◌}
use lib.IntN.{neg_ℤ-+ℤ}
use Rattle.sharing.specs.Fair.{Fair}
use Rattle.sharing.specs.Shareable.{shareable}
use Rattle.sharing.specs.Signed.{signed_parts, sumℤ, with_sign_of}

up : (n : ℕ) (xs : List ℕ) → fold ◌+ℤ◌ (pos n) (map pos xs) ≡ pos (fold (λ a x. a + x) n xs)
up n [] = refl
up n (x ∷ xs) = up (n + x) xs

down : (n : ℕ) (xs : List ℕ) → fold ◌+ℤ◌ (neg_ℤ (pos n)) (map (λ x. neg_ℤ (pos x)) xs) ≡ neg_ℤ (pos (fold (λ a x. a + x) n xs))
down n [] = refl
down n (x ∷ xs) = ap (λ z. fold ◌+ℤ◌ z (map (λ x. neg_ℤ (pos x)) xs)) (sym (neg_ℤ-+ℤ (pos n) (pos x))) ∙ down (n + x) xs

pub signed_total : (z : ℤ) (xs : List ℕ) → sum xs ≡ nat_abs z → sumℤ (map (with_sign_of z) xs) ≡ z
signed_total (pos a) xs e = up 0 xs ∙ ap pos e
signed_total (negsuc a) xs e = down 0 xs ∙ ap (λ n. neg_ℤ (pos n)) e

pub signed_whole : (f : ℕ → List ℕ → List ℕ) → Fair f → (z : ℤ) (ws : List ℕ) → shareable (nat_abs z) ws ≡ true → sumℤ (signed_parts f z ws) ≡ z
signed_whole f fair z ws s = signed_total z (f (nat_abs z) ws) (fair.whole (nat_abs z) ws s)
