-- How long the lines are.
use Rattle.std.proofs.Common.{◌≡◌, ℕ, ◌+◌, length, ℤ, pos, negsuc, nat_abs, decimal, refl, arith, length-append}
use Rattle.codes.specs.declared.code.Code.{Code}
use Rattle.statement.specs.Lines.{amount_line, sided_line}
use Rattle.statement.specs.Sides.{side_and_magnitude}
use Rattle.statement.specs.declared.side.Side.{Side}

pub magnitude_is : (amount : ℤ) → (side_and_magnitude amount).1 ≡ nat_abs amount
magnitude_is (pos n) = refl
magnitude_is (negsuc n) = refl

pub length_sided : (code : Code) (party : ℕ) (a : Side × ℕ) → length (sided_line code party a) ≡ length (decimal party) + length (decimal a.1) + 7
length_sided code party a = simp length-append (omega arith)

pub length_amount_line : (code : Code) (party : ℕ) (amount : ℤ)
    → length (amount_line code party amount) ≡ length (decimal party) + length (decimal (side_and_magnitude amount).1) + 7
unfolding amount_line
length_amount_line code party amount = length_sided code party (side_and_magnitude amount)
