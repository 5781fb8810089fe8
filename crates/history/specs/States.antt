-- A day in whatever state it is.
use Rattle.std.specs.Prelude.{ℕ, Bool, true, false, ◌||◌}
use Rattle.day.specs.Calls.{made_before, made_with}
use Rattle.day.specs.declared.state.Numbers.{Numbers}
use Rattle.history.specs.declared.states.Day.{Day}
use Rattle.history.specs.declared.states.Day.TheVariants.{Closed, Issued, Open, Settled}

abbrev pub numbers_of : Day → Numbers
numbers_of (Open d) = d.numbers
numbers_of (Closed d) = d.numbers
numbers_of (Settled d) = d.numbers
numbers_of (Issued d) = d.numbers

-- how many issues were made
abbrev pub issues_made : Day → ℕ
issues_made (Open d) = made_before d.numbers
issues_made (Closed d) = made_before d.numbers
issues_made (Settled d) = made_before d.numbers
issues_made (Issued d) = made_with d.numbers

abbrev pub is_open : Day → Bool
is_open (Open d) = true
is_open (Closed d) = false
is_open (Settled d) = false
is_open (Issued d) = false

abbrev pub is_closed : Day → Bool
is_closed (Open d) = false
is_closed (Closed d) = true
is_closed (Settled d) = false
is_closed (Issued d) = false

abbrev pub is_settled : Day → Bool
is_settled (Open d) = false
is_settled (Closed d) = false
is_settled (Settled d) = true
is_settled (Issued d) = false

abbrev pub is_issued : Day → Bool
is_issued (Open d) = false
is_issued (Closed d) = false
is_issued (Settled d) = false
is_issued (Issued d) = true

-- settled or issued
abbrev pub has_table : Day → Bool
has_table day = is_settled day || is_issued day
