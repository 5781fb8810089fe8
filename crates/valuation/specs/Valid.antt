-- Facts of records that a book takes, and of a book that took them all.
use Rattle.std.specs.Prelude.{ℕ, ◌≤◌, cond, ◌&&◌, length, sum_by, ◌==◌, unsigned_abs}
use Rattle.std.specs.List.{AllByRecursion}
use Rattle.dayfile.specs.Records.{Records}
use Rattle.dayfile.specs.declared.record.Fine.{Fine}
use Rattle.dayfile.specs.declared.record.Interconnection.{Interconnection}
use Rattle.dayfile.specs.declared.record.Position.{Position}
use Rattle.dayfile.specs.declared.record.Price.{Price}
use Rattle.dayfile.specs.declared.record.Reserve.{Reserve}

pub record ValidPrice (p : Price) : Type 0 where
  pub day : unsigned_abs p.day_ahead ≤ 10000000
  pub real : unsigned_abs p.real_time ≤ 10000000

pub record ValidPosition (x : Position) : Type 0 where
  pub day : x.day_ahead ≤ 2000000
  pub real : x.real_time ≤ 2000000

pub record ValidInterconnection (x : Interconnection) : Type 0 where
  pub first : 1 ≤ x.system
  pub last : x.system ≤ 4
  pub day_out : x.day_ahead_export ≤ 2000000
  pub day_in : x.day_ahead_import ≤ 2000000
  pub real_out : x.real_time_export ≤ 2000000
  pub real_in : x.real_time_import ≤ 2000000
  pub price : unsigned_abs x.imbalance_price ≤ 10000000

pub record ValidReserve (x : Reserve) : Type 0 where
  pub day_price : x.day_ahead_price ≤ 10000000
  pub day : x.day_ahead ≤ 2000000
  pub real_price : x.real_time_price ≤ 10000000
  pub real : x.real_time ≤ 2000000

pub record ValidFine (x : Fine) : Type 0 where
  pub centavos : x.centavos ≤ 1000000000000

-- an account of the heading
abbrev pub Listed : Records → ℕ → Type 0
Listed r account = (1 ≤ account) × (account ≤ r.heading.accounts)

pub record Sound (r : Records) : Type 0 where
  pub some : 1 ≤ r.heading.accounts
  pub few : r.heading.accounts ≤ 32
  pub day : r.heading.hours ≤ 25
  pub few_positions : length r.positions ≤ 1000
  pub few_interconnections : length r.interconnections ≤ 200
  pub few_reserves : length r.reserves ≤ 400
  pub few_failures : length r.failures ≤ 320
  pub few_fines : length r.fines ≤ 50
  pub prices : AllByRecursion ValidPrice r.prices
  pub positions : AllByRecursion ValidPosition r.positions
  pub interconnections : AllByRecursion ValidInterconnection r.interconnections
  pub reserves : AllByRecursion ValidReserve r.reserves
  pub fines : AllByRecursion ValidFine r.fines
  pub position_accounts : AllByRecursion (λ x. Listed r x.account) r.positions
  pub reserve_accounts : AllByRecursion (λ x. Listed r x.account) r.reserves
  pub fine_accounts : AllByRecursion (λ x. Listed r x.account) r.fines
  -- no two failures have one unit and kind
  pub once : (unit kind : ℕ) → sum_by (λ f. cond (unit == f.unit && kind == f.kind) 1 0) r.failures ≤ 1
