-- A proportion of an amount from the quotient and the remainder of the amount by the sum of the weights.
use Rattle.std.proofs.Common.{◌≡◌, ℕ, ◌+◌, ◌*◌, ◌/◌, ◌%◌, ◌<◌, ◌≤◌, sym, ap, ◌∙◌, mul_assoc, mul_comm, add-mul, mul-le-mul_left, div-add-mod', div-mul-le_self, arith}
use native.Mathlib.Nat.{mul-add-div_right, mul-add-mod_self_right}
use Rattle.std.proofs.lemmas.Nat.{div_below, mod_below, mul-le}

spread : (amount total weight : ℕ) → amount * weight ≡ amount / total * weight * total + amount % total * weight
spread amount total weight =
    let q = amount / total in
    let r = amount % total in
    let swap : q * total * weight ≡ q * weight * total = mul_assoc q total weight ∙ ap (λ n. q * n) (mul_comm total weight) ∙ sym (mul_assoc q weight total) in
    ap (λ n. n * weight) (sym (div-add-mod' amount total)) ∙ add-mul (q * total) r weight ∙ ap (λ n. n + r * weight) swap

pub exact_quotient : (amount total weight : ℕ) → 0 < total → amount / total * weight + amount % total * weight / total ≡ amount * weight / total
exact_quotient amount total weight p =
    sym (ap (λ n. n / total) (spread amount total weight) ∙ mul-add-div_right p (amount / total * weight) (amount % total * weight))

pub exact_remainder : (amount total weight : ℕ) → amount % total * weight % total ≡ amount * weight % total
exact_remainder amount total weight =
    sym (ap (λ n. n % total) (spread amount total weight) ∙ mul-add-mod_self_right (amount / total * weight) total (amount % total * weight))

-- the products that are formed stay small: at most the amount, and below limit × limit where the total is within any limit
pub each_fits : (amount total weight : ℕ) → weight ≤ total → amount / total * weight ≤ amount
each_fits amount total weight h = omega (arith, mul-le-mul_left (amount / total) h, div-mul-le_self amount total)

pub rest_fits : (limit amount total weight : ℕ) → 0 < total → weight ≤ total → total ≤ limit → amount % total * weight ≤ limit * limit
rest_fits limit amount total weight p h k = mul-le (amount % total) weight limit limit (omega (arith, mod_below amount total p)) (omega arith)

pub portion_le : (amount total weight : ℕ) → 0 < total → weight ≤ total → amount * weight / total ≤ amount
portion_le amount total weight p h =
    omega (arith, mul-le-mul_left amount h, div_below (amount * weight) total (amount + 1) p (omega (arith, mul-le-mul_left amount h, add-mul amount 1 total)))
