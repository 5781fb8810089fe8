-- A signed amount is shared by its magnitude, and the parts take its sign.
use Rattle.std.specs.Prelude.{ℕ, cond, List, map, length, ℤ, pos, negsuc, ◌+ℤ◌, neg_ℤ, fold, unsigned_abs}
use Rattle.sharing.specs.Shareable.{admitted}

-- a magnitude with the sign of an amount
abbrev pub with_sign_of : ℤ → ℕ → ℤ
with_sign_of (pos a) part = pos part
with_sign_of (negsuc a) part = neg_ℤ (pos part)

abbrev pub signed_parts : (ℕ → List ℕ → List ℕ) → ℤ → List ℕ → List ℤ
signed_parts parts amount weights = map (with_sign_of amount) (parts (unsigned_abs amount) weights)

abbrev pub signed_leaves : (ℕ → List ℕ → List ℕ) → ℤ → List ℕ → List ℤ → List ℤ
signed_leaves parts amount weights before =
    cond (admitted (unsigned_abs amount) weights (length before)) (signed_parts parts amount weights) before

abbrev pub sumℤ : List ℤ → ℤ
sumℤ zs = fold ◌+ℤ◌ (pos 0) zs
