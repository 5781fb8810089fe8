-- The items of a day: penalties and fines.
use Rattle.std.specs.Prelude.{ℕ, cond, ◌&&◌, List, ℤ, pos, negsuc, ◌==◌}
use Rattle.dayfile.specs.Records.{Records}
use Rattle.dayfile.specs.declared.record.Failure.{Failure}
use Rattle.dayfile.specs.declared.record.Reserve.{Reserve}
use Rattle.codes.specs.Sums.{sum_over}
use Rattle.valuation.specs.Terms.{failed_term, fine_mils}
use Rattle.amounts.specs.Amounts.{accounts, owned_by}

-- the larger of 0 and an amount
abbrev pub at_least_zero : ℤ → ℤ
at_least_zero (pos n) = pos n
at_least_zero (negsuc n) = pos 0

-- what a reserve adds to the day's sum of a unit and kind that failed
abbrev pub failing : Failure → Reserve → ℤ
failing f x = cond (x.unit == f.unit && x.kind == f.kind) (failed_term x) (pos 0)

-- an account's sum of a unit and kind that failed, over all hours of the day
abbrev pub failed_among : List Reserve → Failure → ℕ → ℤ
failed_among reserves f account = sum_over (λ x. owned_by x.account account (failing f x)) reserves

-- the larger of 0 and that sum, taken once for the whole day
abbrev pub penalty_among : List Reserve → ℕ → Failure → ℤ
penalty_among reserves account f = at_least_zero (failed_among reserves f account)

abbrev pub penalties : Records → ℕ → ℤ
penalties r account = sum_over (penalty_among r.reserves account) r.failures

abbrev pub all_penalties : Records → ℤ
all_penalties r = sum_over (penalties r) (accounts r)

abbrev pub fines : Records → ℕ → ℤ
fines r account = sum_over (λ x. owned_by x.account account (fine_mils x)) r.fines

abbrev pub all_fines : Records → ℤ
all_fines r = sum_over fine_mils r.fines
