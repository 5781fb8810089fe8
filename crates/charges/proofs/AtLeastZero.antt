-- The larger of 0 and an amount.
use Rattle.std.proofs.Common.{◌≤◌, ℤ, pos, negsuc, nat_abs, arith}
use Rattle.charges.specs.Items.{at_least_zero}

pub zero_le : (z : ℤ) → nat_abs (at_least_zero z) ≤ nat_abs z
zero_le (pos n) = omega arith
zero_le (negsuc n) = omega arith
