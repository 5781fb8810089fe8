-- A text that is written because it fits.
use Rattle.std.proofs.Common.{◌≡◌, ℕ, Bool, true, false, cond, Some, None, refl, arith}

pub some_of : {X : Type 0} (b : Bool) (x y : X) → Some y ≡ cond b (Some x) None → (b ≡ true) × (y ≡ x)
some_of true x y e = (refl, cc)
some_of false x y e = let z : ◌≡◌ {A = ℕ} 0 1 = cc in absurd (omega arith)
