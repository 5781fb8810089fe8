-- Sums of amounts.
use Rattle.std.specs.Prelude.{ℕ, List, [], ◌∷◌, ℤ, pos, ◌+ℤ◌}
use Rattle.codes.specs.Codes.{all_codes}
use Rattle.codes.specs.Parties.{party_numbers}
use Rattle.codes.specs.declared.code.Code.{Code}

-- the sum of f x over the x of a list
abbrev pub sum_over : {X : Type 0} → (X → ℤ) → List X → ℤ
sum_over f [] = pos 0
sum_over f (x ∷ xs) = f x +ℤ sum_over f xs

-- over all codes and parties
abbrev pub total : (Code → ℕ → ℤ) → ℤ
total f = sum_over (λ code. sum_over (f code) party_numbers) all_codes
