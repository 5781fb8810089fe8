-- The bytes of each record of the day file. Numbers stand with their highest byte first.
use Rattle.std.specs.Prelude.{ℕ, ◌/◌, ◌%◌, List, [], ◌∷◌, ◌++◌, ℤ}
use Rattle.std.specs.Int.{w32}
use Rattle.std.proofs.Common.{of_z}
use Rattle.dayfile.specs.Classes.{class_number}
use Rattle.dayfile.specs.Marks.{mark_letters}
use Rattle.dayfile.specs.declared.heading.Heading.{Heading}
use Rattle.dayfile.specs.declared.mark.Mark.TheVariants as mark
use Rattle.dayfile.specs.declared.record.Failure.{Failure}
use Rattle.dayfile.specs.declared.record.Fine.{Fine}
use Rattle.dayfile.specs.declared.record.Interconnection.{Interconnection}
use Rattle.dayfile.specs.declared.record.Position.{Position}
use Rattle.dayfile.specs.declared.record.Price.{Price}
use Rattle.dayfile.specs.declared.record.Reserve.{Reserve}

-- a number in two, four or eight bytes, and a signed one in four by two's complement
abbrev pub in_two : ℕ → List ℕ
in_two n = (n / 256 % 256) ∷ (n % 256) ∷ []

abbrev pub in_four : ℕ → List ℕ
in_four n = (n / 16777216 % 256) ∷ (n / 65536 % 256) ∷ (n / 256 % 256) ∷ (n % 256) ∷ []

abbrev pub in_eight : ℕ → List ℕ
in_eight n =
    (n / 72057594037927936 % 256) ∷ (n / 281474976710656 % 256) ∷ (n / 1099511627776 % 256) ∷ (n / 4294967296 % 256)
    ∷ (n / 16777216 % 256) ∷ (n / 65536 % 256) ∷ (n / 256 % 256) ∷ (n % 256) ∷ []

abbrev pub in_four_signed : ℤ → List ℕ
in_four_signed z = in_four (of_z w32 z)

abbrev pub heading_bytes : Heading → List ℕ
heading_bytes x =
    mark_letters mark.Day ++ in_two x.year ++ x.month ∷ x.day ∷ x.hours ∷ x.accounts ∷ x.nodes ∷ x.interconnections ∷ []

abbrev pub price_bytes : Price → List ℕ
price_bytes x = mark_letters mark.Price ++ x.node ∷ x.hour ∷ in_four_signed x.day_ahead ++ in_four_signed x.real_time

abbrev pub position_bytes : Position → List ℕ
position_bytes x =
    mark_letters mark.Position ++ x.account ∷ x.node ∷ x.hour ∷ class_number x.class ∷ in_four x.day_ahead ++ in_four x.real_time

abbrev pub interconnection_bytes : Interconnection → List ℕ
interconnection_bytes x =
    mark_letters mark.Interconnection ++ x.interconnection ∷ x.system ∷ x.node ∷ x.hour
    ∷ in_four x.day_ahead_export ++ in_four x.day_ahead_import ++ in_four x.real_time_export ++ in_four x.real_time_import
    ++ in_four_signed x.imbalance_price

abbrev pub reserve_bytes : Reserve → List ℕ
reserve_bytes x =
    mark_letters mark.Reserve ++ x.account ∷ x.unit ∷ x.kind ∷ x.hour
    ∷ in_four x.day_ahead_price ++ in_four x.day_ahead ++ in_four x.real_time_price ++ in_four x.real_time

abbrev pub failure_bytes : Failure → List ℕ
failure_bytes x = mark_letters mark.Failure ++ x.unit ∷ x.kind ∷ []

abbrev pub fine_bytes : Fine → List ℕ
fine_bytes x = mark_letters mark.Fine ++ in_four x.identifier ++ x.account ∷ in_eight x.centavos

abbrev pub end_bytes : ℕ → List ℕ
end_bytes n = mark_letters mark.End ++ in_two n
