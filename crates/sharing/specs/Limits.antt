-- The limits of every sharing rule, named once.
use Rattle.std.specs.Prelude.{ℕ}

-- the largest amount, in mils
abbrev pub most_amount : ℕ
most_amount = 100000000000000000

-- the largest sum of the weights
abbrev pub most_weight : ℕ
most_weight = 2000000000

-- the largest number of weights
abbrev pub most_places : ℕ
most_places = 32
