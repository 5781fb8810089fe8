-- The states of a day.
use Rattle.day.specs.declared.stage.Closed as closed_stage
use Rattle.day.specs.declared.stage.Issued as issued_stage
use Rattle.day.specs.declared.stage.Open as open_stage
use Rattle.day.specs.declared.stage.Settled as settled_stage
use Rattle.day.specs.declared.state.DayIn.{DayIn}
use Rattle.day.specs.declared.state.Numbers.{Numbers}

abbrev pub Open : Type 0
Open = DayIn open_stage.Open

abbrev pub Closed : Type 0
Closed = DayIn closed_stage.Closed

abbrev pub Settled : Type 0
Settled = DayIn settled_stage.Settled

abbrev pub Issued : Type 0
Issued = DayIn issued_stage.Issued

-- the day of some state that carries these numbers
abbrev pub day_with : {S : Type 0} → Numbers → DayIn S
day_with numbers = record { numbers = numbers; state = record {} }
