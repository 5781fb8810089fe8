-- Which node and hour has a price, and which record lacks one.
use Rattle.std.specs.Prelude.{ℕ, ◌+◌, Bool, cond, ◌&&◌, List, [], ◌∷◌, is_some, Some, None, Ok, Err, Option, Result, ◌==◌}
use Rattle.faults.specs.Places.{fault_of, plain}
use Rattle.faults.specs.declared.fault.Fault.{Fault}
use Rattle.faults.specs.declared.fault.Place.{Place}
use Rattle.faults.specs.declared.refusal.Refusal.TheVariants.{WrongCount, NoPrice}
use Rattle.dayfile.specs.Records.{Records}
use Rattle.dayfile.specs.declared.record.Interconnection.{Interconnection}
use Rattle.dayfile.specs.declared.record.Position.{Position}
use Rattle.dayfile.specs.declared.record.Price.{Price}
use Rattle.dayfile.specs.declared.record.Record.TheVariants as kind
use Rattle.decoding.specs.Decoded.{and_then, decoded_end, place_of}
use Rattle.rows.specs.Tables.{first_place}
use Rattle.book.specs.Books.{record_count}

-- is this the price of the node in the hour?
abbrev pub is_price_of : ℕ → ℕ → Price → Bool
is_price_of node hour p = node == p.node && hour == p.hour

abbrev pub has_price : List Price → ℕ → ℕ → Bool
has_price prices node hour = is_some (first_place (is_price_of node hour) prices)

abbrev pub position_place : Position → Place
position_place p = place_of (kind.Position p)

abbrev pub interconnection_place : Interconnection → Place
interconnection_place p = place_of (kind.Interconnection p)

-- the place of the first of these whose node and hour have no price
abbrev pub first_unpriced_among : {X : Type 0} → (X → Place) → List Price → List X → Option Place
first_unpriced_among place prices [] = None
first_unpriced_among place prices (x ∷ xs) =
    cond (has_price prices (place x).node (place x).hour) (first_unpriced_among place prices xs) (Some (place x))

abbrev pub or_else : Option Place → Option Place → Option Place
or_else (Some place) other = Some place
or_else None other = other

-- the first position without a price, or else the first interconnection record without one, in order of entry
abbrev pub first_unpriced : Records → Option Place
first_unpriced b =
    or_else (first_unpriced_among position_place b.prices b.positions)
    (first_unpriced_among interconnection_place b.prices b.interconnections)

abbrev pub priced_or_fault : Option Place → Result (Unit {0}) Fault
priced_or_fault None = Ok tt
priced_or_fault (Some place) = Err (fault_of NoPrice place)

-- an end record counts the records before it, the heading's among them; then every record has a price
abbrev pub ended : Records → ℕ → Result (Unit {0}) Fault
ended b count = cond (count == 1 + record_count b) (priced_or_fault (first_unpriced b)) (Err (plain WrongCount))

-- what a close with these bytes answers
abbrev pub closing : Records → List ℕ → Result (Unit {0}) Fault
closing b bytes = and_then (decoded_end bytes) (ended b)
