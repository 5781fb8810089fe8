-- Products over a sum of integers.
use Rattle.std.proofs.Common.{◌≡◌, zero, suc, ℤ, pos, negsuc, ◌+ℤ◌, ◌-ℤ◌, ◌*ℤ◌, sym, ap, ◌∙◌, arith}
use borrow.Author.Differences.{ints}
use lib.IntN.{suc_ℤ, pred_ℤ, +ℤ_idl, zero-*ℤ, suc_ℤ-+ℤ, pred_ℤ-+ℤ, suc_ℤ-*ℤ, pred_ℤ-*ℤ, *ℤ_comm, -ℤ-+ℤ_cancel}

up : (n : ℤ) (b c : ℤ) → (n +ℤ b) *ℤ c ≡ n *ℤ c +ℤ b *ℤ c → (suc_ℤ n +ℤ b) *ℤ c ≡ suc_ℤ n *ℤ c +ℤ b *ℤ c
up n b c h =
    let e : (suc_ℤ n +ℤ b) *ℤ c ≡ (n +ℤ b) *ℤ c +ℤ c = ap (λ z. z *ℤ c) (suc_ℤ-+ℤ n b) ∙ suc_ℤ-*ℤ (n +ℤ b) c in
    let f = suc_ℤ-*ℤ n c in
    omega (arith, ints)

down : (n : ℤ) (b c : ℤ) → (n +ℤ b) *ℤ c ≡ n *ℤ c +ℤ b *ℤ c → (pred_ℤ n +ℤ b) *ℤ c ≡ pred_ℤ n *ℤ c +ℤ b *ℤ c
down n b c h =
    let e : (pred_ℤ n +ℤ b) *ℤ c ≡ (n +ℤ b) *ℤ c -ℤ c = ap (λ z. z *ℤ c) (pred_ℤ-+ℤ n b) ∙ pred_ℤ-*ℤ (n +ℤ b) c in
    let f = pred_ℤ-*ℤ n c in
    omega (arith, ints)

none : (b c : ℤ) → (pos 0 +ℤ b) *ℤ c ≡ pos 0 *ℤ c +ℤ b *ℤ c
none b c = ap (λ z. z *ℤ c) (+ℤ_idl b) ∙ sym (ap (λ z. z +ℤ b *ℤ c) (zero-*ℤ c) ∙ +ℤ_idl (b *ℤ c))

pub add_mulℤ : (a b c : ℤ) → (a +ℤ b) *ℤ c ≡ a *ℤ c +ℤ b *ℤ c
add_mulℤ (pos zero) b c = none b c
add_mulℤ (pos (suc n)) b c = up (pos n) b c (add_mulℤ (pos n) b c)
add_mulℤ (negsuc zero) b c = down (pos 0) b c (none b c)
add_mulℤ (negsuc (suc n)) b c = down (negsuc n) b c (add_mulℤ (negsuc n) b c)

pub mul_subℤ : (a b c : ℤ) → a *ℤ (b -ℤ c) ≡ a *ℤ b -ℤ a *ℤ c
mul_subℤ a b c =
    let e : (b -ℤ c) *ℤ a +ℤ c *ℤ a ≡ b *ℤ a = sym (add_mulℤ (b -ℤ c) c a) ∙ ap (λ z. z *ℤ a) (-ℤ-+ℤ_cancel b c) in
    let f = *ℤ_comm a (b -ℤ c) in
    let g = *ℤ_comm a b in
    let h = *ℤ_comm a c in
    omega (arith, ints)
