-- The running rule.
use Rattle.std.specs.Prelude.{ℕ, ◌+◌, ◌-◌, ◌*◌, ◌/◌, List, map, length, take, sum}
use Rattle.std.specs.List.{range_with_len}

-- what the first places are due together: the floor of amount × (their weights) / (all weights)
abbrev pub due : ℕ → List ℕ → ℕ → ℕ
due amount weights places = (amount * sum (take places weights)) / sum weights

-- a part is what is due up to and including its place, less what is due before it
abbrev pub running : ℕ → List ℕ → List ℕ
running amount weights = map (λ i. due amount weights (i + 1) - due amount weights i) (range_with_len 0 (length weights))
