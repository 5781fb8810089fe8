-- What a day is settled from: the heading, and the records of each kind in the order in which they came.
use Rattle.std.specs.Prelude.{List}
use Rattle.dayfile.specs.declared.heading.Heading.{Heading}
use Rattle.dayfile.specs.declared.record.Failure.{Failure}
use Rattle.dayfile.specs.declared.record.Fine.{Fine}
use Rattle.dayfile.specs.declared.record.Interconnection.{Interconnection}
use Rattle.dayfile.specs.declared.record.Position.{Position}
use Rattle.dayfile.specs.declared.record.Price.{Price}
use Rattle.dayfile.specs.declared.record.Reserve.{Reserve}

pub record Records : Type 0 where
  pub heading : Heading
  pub prices : List Price
  pub positions : List Position
  pub interconnections : List Interconnection
  pub reserves : List Reserve
  pub failures : List Failure
  pub fines : List Fine
