-- Headings made of their fields.
use Rattle.std.specs.Prelude.{◌≡◌, ℕ, Bool, true, false, ◌&&◌, T, Some, None, Option, ◌==◌}
use Rattle.dayfile.specs.Calendar.{real_heading}
use Rattle.dayfile.specs.contracts.heading.HeadingPartialEq.TheImpl as compared
use Rattle.dayfile.specs.declared.heading.Heading.{Heading}

-- a value that can be made where the test holds
abbrev pub provided : {X : Type 0} → (test : Bool) → (T test → X) → Option X
provided true make = Some (make tt)
provided false make = None

-- the heading with these fields, if they are real ones
abbrev pub heading_of : ℕ → ℕ → ℕ → ℕ → ℕ → ℕ → ℕ → Option Heading
heading_of year month day hours accounts nodes interconnections =
    provided (real_heading year month day hours accounts nodes interconnections)
    (λ real. record { year = year; month = month; day = day; hours = hours; accounts = accounts; nodes = nodes; interconnections = interconnections; real = real })

abbrev pub same_fields : Heading → Heading → Bool
same_fields a b =
    (a.year == b.year) && (a.month == b.month && (a.day == b.day && (a.hours == b.hours
    && (a.accounts == b.accounts && (a.nodes == b.nodes && a.interconnections == b.interconnections)))))

-- a heading is its fields
abbrev pub HeadingsAreTheirFields : Type 0
HeadingsAreTheirFields = (a b : Heading) → same_fields a b ≡ true → a ≡ b

-- what a heading holds is what it could be made of
abbrev pub HeadingsAreMade : Type 0
HeadingsAreMade = (a : Heading) → heading_of a.year a.month a.day a.hours a.accounts a.nodes a.interconnections ≡ Some a

-- `==` compares the fields, and nothing else
abbrev pub HeadingsEqualByFields : Type 0
HeadingsEqualByFields = (a b : Heading) → (compared.ghosts).eq a b ≡ same_fields a b
