-- What holds of every sheet and of every settled day, under any fair rule, for the records of a sound book.
use Rattle.std.specs.Prelude.{◌≡◌, ℕ, ◌-◌, ◌<◌, ◌≤◌, true, false, List, pos, ◌-ℤ◌, ◌*ℤ◌, None, sum, ◌≢◌, slice_index, unsigned_abs}
use Rattle.dayfile.specs.Records.{Records}
use Rattle.sharing.specs.Fair.{Fair}
use Rattle.book.specs.Soundness.{sound_records}
use Rattle.codes.specs.Codes.{basis_of}
use Rattle.codes.specs.Sums.{sum_over, total}
use Rattle.codes.specs.declared.code.Basis.TheVariants.{Own}
use Rattle.codes.specs.declared.code.Code.{Code}
use Rattle.amounts.specs.Amounts.{Scope, accounts, first_lacking, lacking, shared, weights}
use Rattle.settlement.specs.Days.{day_cell}
use Rattle.settlement.specs.Sheets.{sheet}

-- a sheet adds up to zero over all codes and parties
abbrev pub SheetsBalance : Type 0
SheetsBalance = (parts : ℕ → List ℕ → List ℕ) → Fair parts → (r : Records) (scope : Scope) → sound_records r ≡ true → lacking r scope ≡ false
    → total (sheet parts r scope) ≡ pos 0

-- the accounts' parts of a shared amount add up to it
abbrev pub SharesAreWhole : Type 0
SharesAreWhole = (parts : ℕ → List ℕ → List ℕ) → Fair parts → (r : Records) (scope : Scope) → sound_records r ≡ true → lacking r scope ≡ false
    → (code : Code) → (basis_of code ≢ Own) → sum_over (sheet parts r scope code) (accounts r) ≡ shared r scope code

-- where the weights of its basis are not all 0, an account's part × their sum differs from the amount × the account's
-- weight by less than their sum
abbrev pub PartsAreNear : Type 0
PartsAreNear = (parts : ℕ → List ℕ → List ℕ) → Fair parts → (r : Records) (scope : Scope) → sound_records r ≡ true → lacking r scope ≡ false
    → (code : Code) → 0 < sum (weights (basis_of code) r scope) → (account : ℕ) → 1 ≤ account → account ≤ r.heading.accounts
    → unsigned_abs (sheet parts r scope code account *ℤ pos (sum (weights (basis_of code) r scope)) -ℤ shared r scope code *ℤ pos (slice_index (weights (basis_of code) r scope) (account - 1)))
    < sum (weights (basis_of code) r scope)

-- a settled day adds up to zero over all codes and parties
abbrev pub DaysBalance : Type 0
DaysBalance = (parts : ℕ → List ℕ → List ℕ) → Fair parts → (r : Records) → sound_records r ≡ true → first_lacking r ≡ None → total (day_cell parts r) ≡ pos 0

-- no cell of a settled day is above 5×10^16 in magnitude
abbrev pub CellsAreSmall : Type 0
CellsAreSmall = (parts : ℕ → List ℕ → List ℕ) → Fair parts → (r : Records) → sound_records r ≡ true → first_lacking r ≡ None → (code : Code) (party : ℕ)
    → unsigned_abs (day_cell parts r code party) ≤ 50000000000000000
