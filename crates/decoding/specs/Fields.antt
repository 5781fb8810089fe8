-- What the bytes of a record say, field by field. Numbers stand with their highest byte first.
use Rattle.std.specs.Prelude.{ℕ, ◌+◌, ◌*◌, List, ℤ, Option, slice_index}
use Rattle.std.specs.Int.{w32}
use Rattle.std.proofs.Common.{to_z}
use Rattle.std.specs.Option.{option_map}
use Rattle.dayfile.specs.Classes.{class_of}
use Rattle.dayfile.specs.Headings.{heading_of}
use Rattle.dayfile.specs.declared.heading.Heading.{Heading}
use Rattle.dayfile.specs.declared.record.Failure.{Failure}
use Rattle.dayfile.specs.declared.record.Fine.{Fine}
use Rattle.dayfile.specs.declared.record.Interconnection.{Interconnection}
use Rattle.dayfile.specs.declared.record.Position.{Position}
use Rattle.dayfile.specs.declared.record.Price.{Price}
use Rattle.dayfile.specs.declared.record.Reserve.{Reserve}

-- the byte at an index, the first at 0
abbrev pub byte : List ℕ → ℕ → ℕ
byte bytes i = slice_index bytes i

-- the number in the two, four or eight bytes from an index on
abbrev pub two_bytes : List ℕ → ℕ → ℕ
two_bytes bytes i = byte bytes i * 256 + byte bytes (i + 1)

abbrev pub four_bytes : List ℕ → ℕ → ℕ
four_bytes bytes i = byte bytes i * 16777216 + byte bytes (i + 1) * 65536 + byte bytes (i + 2) * 256 + byte bytes (i + 3)

abbrev pub eight_bytes : List ℕ → ℕ → ℕ
eight_bytes bytes i =
    byte bytes i * 72057594037927936 + byte bytes (i + 1) * 281474976710656 + byte bytes (i + 2) * 1099511627776 + byte bytes (i + 3) * 4294967296
    + byte bytes (i + 4) * 16777216 + byte bytes (i + 5) * 65536 + byte bytes (i + 6) * 256 + byte bytes (i + 7)

-- the number in four bytes by two's complement
abbrev pub signed_four_bytes : List ℕ → ℕ → ℤ
signed_four_bytes bytes i = to_z w32 (four_bytes bytes i)

-- none where the fields are not those of a real heading
abbrev pub heading_in : List ℕ → Option Heading
heading_in bytes = heading_of (two_bytes bytes 2) (byte bytes 4) (byte bytes 5) (byte bytes 6) (byte bytes 7) (byte bytes 8) (byte bytes 9)

abbrev pub price_in : List ℕ → Price
price_in bytes = record { node = byte bytes 2; hour = byte bytes 3; day_ahead = signed_four_bytes bytes 4; real_time = signed_four_bytes bytes 8 }

-- none where no class has the number
abbrev pub position_in : List ℕ → Option Position
position_in bytes = option_map
    (λ class. record { account = byte bytes 2; node = byte bytes 3; hour = byte bytes 4; class = class; day_ahead = four_bytes bytes 6; real_time = four_bytes bytes 10 })
    (class_of (byte bytes 5))

abbrev pub interconnection_in : List ℕ → Interconnection
interconnection_in bytes = record {
  interconnection = byte bytes 2;
  system = byte bytes 3;
  node = byte bytes 4;
  hour = byte bytes 5;
  day_ahead_export = four_bytes bytes 6;
  day_ahead_import = four_bytes bytes 10;
  real_time_export = four_bytes bytes 14;
  real_time_import = four_bytes bytes 18;
  imbalance_price = signed_four_bytes bytes 22;
}

abbrev pub reserve_in : List ℕ → Reserve
reserve_in bytes = record {
  account = byte bytes 2;
  unit = byte bytes 3;
  kind = byte bytes 4;
  hour = byte bytes 5;
  day_ahead_price = four_bytes bytes 6;
  day_ahead = four_bytes bytes 10;
  real_time_price = four_bytes bytes 14;
  real_time = four_bytes bytes 18;
}

abbrev pub failure_in : List ℕ → Failure
failure_in bytes = record { unit = byte bytes 2; kind = byte bytes 3 }

abbrev pub fine_in : List ℕ → Fine
fine_in bytes = record { identifier = four_bytes bytes 2; account = byte bytes 6; centavos = eight_bytes bytes 7 }
