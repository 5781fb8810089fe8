-- What the checker reads past the end of a list of records.
use Rattle.dayfile.specs.declared.record.Class.TheVariants.{Generation}
use Rattle.dayfile.specs.declared.record.Failure.{Failure}
use Rattle.dayfile.specs.declared.record.Position.{Position}
use Rattle.dayfile.specs.declared.record.Reserve.{Reserve}

abbrev pub no_position : Position
no_position = record { account = 0; node = 0; hour = 0; class = Generation; day_ahead = 0; real_time = 0 }

abbrev pub no_reserve : Reserve
no_reserve = record { account = 0; unit = 0; kind = 0; hour = 0; day_ahead_price = 0; day_ahead = 0; real_time_price = 0; real_time = 0 }

abbrev pub no_failure : Failure
no_failure = record { unit = 0; kind = 0 }
