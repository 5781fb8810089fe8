-- What the checker reads past the end of a list of prices.
use Rattle.std.specs.Prelude.{pos}
use Rattle.dayfile.specs.declared.record.Price.{Price}

abbrev pub no_price : Price
no_price = record { node = 0; hour = 0; day_ahead = pos 0; real_time = pos 0 }
