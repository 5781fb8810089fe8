-- The issues of a day.
use Rattle.std.specs.Prelude.{ℕ, Some, None, Option}
use Rattle.day.specs.declared.issue_number.IssueNumber.{IssueNumber}
use Rattle.day.specs.declared.issue_number.IssueNumber.TheVariants.{FinalResettlement, Initial, InitialResettlement, IntermediateResettlement}

abbrev pub issue_number : IssueNumber → ℕ
issue_number Initial = 0
issue_number InitialResettlement = 1
issue_number IntermediateResettlement = 2
issue_number FinalResettlement = 3

-- the issue after one, if there is one
abbrev pub following : IssueNumber → Option IssueNumber
following Initial = Some InitialResettlement
following InitialResettlement = Some IntermediateResettlement
following IntermediateResettlement = Some FinalResettlement
following FinalResettlement = None
