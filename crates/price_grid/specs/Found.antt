-- The first of a list that passes a test, and the price of a node in an hour.
use Rattle.std.specs.Prelude.{ℕ, Bool, cond, List, [], ◌∷◌, Some, None, Option}
use Rattle.dayfile.specs.declared.record.Price.{Price}
use Rattle.closing.specs.Prices.{is_price_of}

-- the first of these that passes a test
abbrev pub first_of : {X : Type 0} → (X → Bool) → List X → Option X
first_of test [] = None
first_of test (x ∷ xs) = cond (test x) (Some x) (first_of test xs)

abbrev pub price_at : List Price → ℕ → ℕ → Option Price
price_at prices node hour = first_of (is_price_of node hour) prices
