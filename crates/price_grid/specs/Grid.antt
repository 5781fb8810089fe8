-- Prices by node and hour.
use Rattle.std.specs.Prelude.{◌≡◌, ℕ, ◌+◌, ◌-◌, ◌*◌, ◌≤◌, Bool, cond, ◌&&◌, List, Some, None, Option, nat_le, slice_index_or}
use Rattle.dayfile.specs.declared.record.Price.{Price}
use Rattle.closing.specs.Prices.{is_price_of}
use Rattle.price_grid.specs.Found.{price_at}

-- a node from 1 to 16 in an hour from 1 to 25
pub record Spot (node hour : ℕ) : Type 0 where
  pub node_low : 1 ≤ node
  pub node_high : node ≤ 16
  pub hour_low : 1 ≤ hour
  pub hour_high : hour ≤ 25

abbrev pub is_spot : ℕ → ℕ → Bool
is_spot node hour = nat_le 1 node && (nat_le node 16 && (nat_le 1 hour && nat_le hour 25))

-- where the spot's price stands, from 0 to 399
abbrev pub spot_place : ℕ → ℕ → ℕ
spot_place node hour = node * 25 + hour - 26

abbrev pub spot_price : List (Option Price) → ℕ → ℕ → Option Price
spot_price spots node hour = slice_index_or spots (spot_place node hour) None

-- every spot has the first price of its node and hour
abbrev pub Indexes : List (Option Price) → List Price → Type 0
Indexes spots prices = (node hour : ℕ) → Spot node hour → spot_price spots node hour ≡ price_at prices node hour

-- a price put before those that the spots have
abbrev pub PutPrice : List (Option Price) → Price → List (Option Price) → Type 0
PutPrice before p after =
    (node hour : ℕ) → Spot node hour → spot_price after node hour ≡ cond (is_price_of node hour p) (Some p) (spot_price before node hour)
