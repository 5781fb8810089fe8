-- The largest-remainder rule.
use Rattle.std.specs.Prelude.{ℕ, zero, suc, ◌+◌, ◌-◌, ◌*◌, ◌/◌, ◌%◌, Bool, cond, ◌&&◌, ◌||◌, List, map, length, sum, ◌==◌, nat_lt, slice_index}
use Rattle.std.specs.List.{range_with_len}

-- the floor of each exact proportion, amount × weight / sum
abbrev pub floors : ℕ → List ℕ → List ℕ
floors amount weights = map (λ w. (amount * w) / sum weights) weights

-- and what the division leaves
abbrev pub remainders : ℕ → List ℕ → List ℕ
remainders amount weights = map (λ w. (amount * w) % sum weights) weights

-- the mils that the floors leave over
abbrev pub missing : ℕ → List ℕ → ℕ
missing amount weights = amount - sum (floors amount weights)

-- place j comes before place i: its remainder is larger, or it is as large and j is the earlier place
abbrev pub before : List ℕ → ℕ → ℕ → Bool
before rests i j = nat_lt (slice_index rests i) (slice_index rests j) || (slice_index rests i == slice_index rests j && nat_lt j i)

-- how many numbers below n pass a test
abbrev pub count : ℕ → (ℕ → Bool) → ℕ
count zero test = 0
count (suc n) test = count n test + cond (test n) 1 0

-- how many places come before place i
abbrev pub rank : List ℕ → ℕ → ℕ
rank rests i = count (length rests) (before rests i)

-- each place has its floor, and one mil more if it is among the first places, of which there are as many as mils are missing
abbrev pub largest_remainder : ℕ → List ℕ → List ℕ
largest_remainder amount weights =
    map (λ i. slice_index (floors amount weights) i + cond (nat_lt (rank (remainders amount weights) i) (missing amount weights)) 1 0)
    (range_with_len 0 (length weights))
