-- The law that every sharing rule keeps, of everything that it does not refuse. A rule is known to its callers by this alone.
use Rattle.std.specs.Prelude.{◌≡◌, ℕ, ◌+◌, ◌*◌, ◌<◌, true, List, length, sum, slice_index}
use Rattle.sharing.specs.Shareable.{shareable}

pub record Fair (parts : ℕ → List ℕ → List ℕ) : Type 0 where
  -- there is a part for each weight
  pub long : (amount : ℕ) (weights : List ℕ) → shareable amount weights ≡ true → length (parts amount weights) ≡ length weights
  -- the parts add up to the amount
  pub whole : (amount : ℕ) (weights : List ℕ) → shareable amount weights ≡ true → sum (parts amount weights) ≡ amount
  -- where there is weight, a part is less than one mil above its exact proportion, amount × weight / sum,
  pub under : (amount : ℕ) (weights : List ℕ) → shareable amount weights ≡ true → 0 < sum weights → (i : ℕ) → i < length weights → slice_index (parts amount weights) i * sum weights < amount * slice_index weights i + sum weights
  -- and less than one mil below it
  pub over : (amount : ℕ) (weights : List ℕ) → shareable amount weights ≡ true → 0 < sum weights → (i : ℕ) → i < length weights → amount * slice_index weights i < slice_index (parts amount weights) i * sum weights + sum weights
  -- where there is none, every part is 0
  pub zeros : (amount : ℕ) (weights : List ℕ) → shareable amount weights ≡ true → sum weights ≡ 0 → (i : ℕ) → i < length weights → slice_index (parts amount weights) i ≡ 0
