-- The side and the magnitude of an amount.
use Rattle.std.specs.Prelude.{ℕ, suc, ℤ, pos, negsuc}
use Rattle.statement.specs.declared.side.Side.{Side}
use Rattle.statement.specs.declared.side.Side.TheVariants.{Payment, Charge}

-- letters are bytes: 80 is P, 67 is C
abbrev pub side_letter : Side → ℕ
side_letter Payment = 80
side_letter Charge = 67

-- what a party receives is a payment, what it owes a charge; 0 is a payment. negsuc n is -(n + 1)
abbrev pub side_and_magnitude : ℤ → Side × ℕ
side_and_magnitude (pos n) = (Payment, n)
side_and_magnitude (negsuc n) = (Charge, suc n)
