-- The amounts of a scope: what a sheet is of. Today a scope is an hour of the day.
use Rattle.std.specs.Prelude.{ℕ, Bool, false, cond, not, ◌&&◌, ◌||◌, List, [], ◌∷◌, map, ℤ, pos, negsuc, ◌-ℤ◌, neg_ℤ, sum_by, sum, Option, ◌==◌}
use Rattle.std.specs.List.{range_with_len}
use Rattle.dayfile.specs.Records.{Records}
use Rattle.dayfile.specs.declared.heading.Heading.{Heading}
use Rattle.dayfile.specs.declared.record.Record.{Record}
use Rattle.dayfile.specs.declared.record.Record.TheVariants.{Price, Position, Interconnection, Reserve, Failure, Fine}
use Rattle.codes.specs.Codes.{all_codes, basis_of}
use Rattle.codes.specs.Sums.{sum_over}
use Rattle.codes.specs.declared.code.Basis.{Basis}
use Rattle.codes.specs.declared.code.Basis.TheVariants.{Own, Purchases}
use Rattle.codes.specs.declared.code.Code.{Code}
use Rattle.codes.specs.declared.code.Code.TheVariants.{A1, A2, A3, A4, B1, B2, B3, B4, F1, F2, F3, F4, F5, F6}
use Rattle.price_grid.specs.Found.{first_of}
use Rattle.valuation.specs.Terms.{exchange_term, imbalance_term, imbalance_value, position_term, purchase, reserve_term}
use Rattle.valuation.specs.declared.market.Market.{Market}
use Rattle.valuation.specs.declared.market.Market.TheVariants.{DayAhead, RealTime}

-- an hour, from 1
abbrev pub Scope : Type 0
Scope = ℕ

-- the scopes of a day, in order
abbrev pub scopes : Heading → List Scope
scopes heading = range_with_len 1 heading.hours

-- does a record count in a scope?
abbrev pub counts : Records → Scope → Record → Bool
counts r scope (Price x) = x.hour == scope
counts r scope (Position x) = x.hour == scope
counts r scope (Interconnection x) = x.hour == scope
counts r scope (Reserve x) = x.hour == scope
counts r scope (Failure x) = false
counts r scope (Fine x) = false

-- an amount where a record counts, and 0 where not
abbrev pub counted : Records → Scope → Record → ℤ → ℤ
counted r scope x amount = cond (counts r scope x) amount (pos 0)

-- an amount where its owner is the one asked for, and 0 where not
abbrev pub owned_by : ℕ → ℕ → ℤ → ℤ
owned_by owner asked amount = cond (owner == asked) amount (pos 0)

abbrev pub accounts : Records → List ℕ
accounts r = range_with_len 1 r.heading.accounts

-- an account's energy in a market: day ahead, or its deviation in real time
abbrev pub energy : Records → Market → Scope → ℕ → ℤ
energy r market scope account =
    sum_over (λ x. owned_by x.account account (counted r scope (Position x) (position_term r.prices market x))) r.positions

-- an account's reserve in a market: day ahead, or its deviation in real time
abbrev pub reserve : Records → Market → Scope → ℕ → ℤ
reserve r market scope account =
    sum_over (λ x. owned_by x.account account (counted r scope (Reserve x) (reserve_term market x))) r.reserves

-- the exchange with the external systems at a market's prices: day ahead, or its deviation in real time
abbrev pub exchange : Records → Market → Scope → ℤ
exchange r market scope = sum_over (λ x. counted r scope (Interconnection x) (exchange_term r.prices market x)) r.interconnections

-- the value of the imbalance
abbrev pub value_of_imbalance : Records → Scope → ℤ
value_of_imbalance r scope = sum_over (λ x. counted r scope (Interconnection x) (imbalance_value r.prices x)) r.interconnections

-- an external system's imbalance
abbrev pub imbalance : Records → Scope → ℕ → ℤ
imbalance r scope system =
    sum_over (λ x. owned_by x.system system (counted r scope (Interconnection x) (imbalance_term x))) r.interconnections

-- an account's physical purchases, in kWh
abbrev pub purchases : Records → Scope → ℕ → ℕ
purchases r scope account =
    sum_by (λ x. cond (x.account == account) (cond (counts r scope (Position x)) (purchase r x) 0) 0) r.positions

-- by what each account shares on a basis, account 1 first
abbrev pub weights : Basis → Records → Scope → List ℕ
weights Own r scope = []
weights Purchases r scope = map (purchases r scope) (accounts r)

-- the amount that a code shares
abbrev pub shared : Records → Scope → Code → ℤ
shared r scope A1 = pos 0
shared r scope A2 = exchange r DayAhead scope -ℤ sum_over (energy r DayAhead scope) (accounts r)
shared r scope A3 = pos 0
shared r scope A4 = neg_ℤ (sum_over (reserve r DayAhead scope) (accounts r))
shared r scope B1 = pos 0
shared r scope B2 = exchange r RealTime scope -ℤ sum_over (energy r RealTime scope) (accounts r)
shared r scope B3 = pos 0
shared r scope B4 = neg_ℤ (sum_over (reserve r RealTime scope) (accounts r))
shared r scope F1 = neg_ℤ (value_of_imbalance r scope)
shared r scope F2 = pos 0
shared r scope F3 = pos 0
shared r scope F4 = pos 0
shared r scope F5 = pos 0
shared r scope F6 = pos 0

abbrev pub is_zero : ℤ → Bool
is_zero (pos n) = n == 0
is_zero (negsuc n) = false

-- has the code an amount to share, and nobody to share it by?
abbrev pub lacks : Records → Scope → Code → Bool
lacks r scope code = sum (weights (basis_of code) r scope) == 0 && not (is_zero (shared r scope code))

abbrev pub any_of : {X : Type 0} → (X → Bool) → List X → Bool
any_of test [] = false
any_of test (x ∷ xs) = test x || any_of test xs

-- does some code lack weights in the scope?
abbrev pub lacking : Records → Scope → Bool
lacking r scope = any_of (lacks r scope) all_codes

abbrev pub first_lacking : Records → Option Scope
first_lacking r = first_of (lacking r) (scopes r.heading)
