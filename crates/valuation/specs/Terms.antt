-- What one record comes to, in mils: a price in centavos per MWh times energy in kWh.
use Rattle.std.specs.Prelude.{ℕ, ◌*◌, Bool, true, false, cond, List, ℤ, pos, negsuc, ◌+ℤ◌, ◌-ℤ◌, ◌*ℤ◌, Some, None, Option}
use Rattle.dayfile.specs.Records.{Records}
use Rattle.dayfile.specs.declared.record.Class.{Class}
use Rattle.dayfile.specs.declared.record.Class.TheVariants.{Generation, Load, Import, Export}
use Rattle.dayfile.specs.declared.record.Fine.{Fine}
use Rattle.dayfile.specs.declared.record.Interconnection.{Interconnection}
use Rattle.dayfile.specs.declared.record.Position.{Position}
use Rattle.dayfile.specs.declared.record.Price.{Price}
use Rattle.dayfile.specs.declared.record.Reserve.{Reserve}
use Rattle.price_grid.specs.Found.{price_at}
use Rattle.valuation.specs.declared.market.Market.{Market}
use Rattle.valuation.specs.declared.market.Market.TheVariants.{DayAhead, RealTime}

-- 1 for energy put into the system, −1 for energy taken out
abbrev pub class_sign : Class → ℤ
class_sign Generation = pos 1
class_sign Load = negsuc 0
class_sign Import = pos 1
class_sign Export = negsuc 0

-- is energy of the class bought?
abbrev pub class_buys : Class → Bool
class_buys Generation = false
class_buys Load = true
class_buys Import = false
class_buys Export = true

-- the price in a market; 0 where there is none
abbrev pub price_in : Market → Option Price → ℤ
price_in DayAhead (Some p) = p.day_ahead
price_in RealTime (Some p) = p.real_time
price_in DayAhead None = pos 0
price_in RealTime None = pos 0

abbrev pub market_price : List Price → Market → ℕ → ℕ → ℤ
market_price prices market node hour = price_in market (price_at prices node hour)

-- what a market settles of a quantity: that of the day before, and in real time the deviation from it
abbrev pub energy_in : Market → ℕ → ℕ → ℤ
energy_in DayAhead day_ahead real_time = pos day_ahead
energy_in RealTime day_ahead real_time = pos real_time -ℤ pos day_ahead

abbrev pub position_energy : Market → Position → ℤ
position_energy market p = energy_in market p.day_ahead p.real_time

-- sign × price × energy
abbrev pub position_term : List Price → Market → Position → ℤ
position_term prices market p = class_sign p.class *ℤ market_price prices market p.node p.hour *ℤ position_energy market p

-- what a position adds to its account's physical purchases, in kWh
abbrev pub purchase : Records → Position → ℕ
purchase r p = cond (class_buys p.class) p.real_time 0

abbrev pub reserve_price : Market → Reserve → ℤ
reserve_price DayAhead x = pos x.day_ahead_price
reserve_price RealTime x = pos x.real_time_price

abbrev pub reserve_energy : Market → Reserve → ℤ
reserve_energy market x = energy_in market x.day_ahead x.real_time

abbrev pub reserve_term : Market → Reserve → ℤ
reserve_term market x = reserve_price market x *ℤ reserve_energy market x

-- export less import over an interconnection
abbrev pub net_export : Market → Interconnection → ℤ
net_export DayAhead x = pos x.day_ahead_export -ℤ pos x.day_ahead_import
net_export RealTime x = pos x.real_time_export -ℤ pos x.real_time_import

-- the exchange of the day before, and in real time the deviation from it
abbrev pub exchange_energy : Market → Interconnection → ℤ
exchange_energy DayAhead x = net_export DayAhead x
exchange_energy RealTime x = net_export RealTime x -ℤ net_export DayAhead x

abbrev pub exchange_term : List Price → Market → Interconnection → ℤ
exchange_term prices market x = market_price prices market x.node x.hour *ℤ exchange_energy market x

-- imbalance price × real-time net export
abbrev pub imbalance_term : Interconnection → ℤ
imbalance_term x = x.imbalance_price *ℤ net_export RealTime x

-- the value of the imbalance (Ec. 475 of the Manual de Liquidaciones): day-ahead price × day-ahead net export
-- + real-time price × real-time net export − real-time price × day-ahead net export − imbalance price × real-time net export
abbrev pub imbalance_value : List Price → Interconnection → ℤ
imbalance_value prices x =
    market_price prices DayAhead x.node x.hour *ℤ net_export DayAhead x
    +ℤ market_price prices RealTime x.node x.hour *ℤ net_export RealTime x
    -ℤ market_price prices RealTime x.node x.hour *ℤ net_export DayAhead x
    -ℤ imbalance_term x

-- what a reserve that failed came to, day ahead and in real time together (Ec. 485)
abbrev pub failed_term : Reserve → ℤ
failed_term x = reserve_term DayAhead x +ℤ reserve_term RealTime x

-- a fine in mils
abbrev pub fine_mils : Fine → ℤ
fine_mils x = pos (x.centavos * 1000)
