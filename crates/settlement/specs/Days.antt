-- The day's table: the sheets of all scopes added, and the items of the day.
use Rattle.std.specs.Prelude.{◌≡◌, ℕ, cond, List, ℤ, ◌+ℤ◌, neg_ℤ, Some, None, Ok, Err, Option, Result, ◌==◌, nat_lt}
use Rattle.faults.specs.Places.{at, fault_of}
use Rattle.faults.specs.declared.fault.Fault.{Fault}
use Rattle.faults.specs.declared.fault.Place.{Place}
use Rattle.faults.specs.declared.refusal.Refusal.TheVariants.{AboveHeading, NoPrice, NoPurchases, OutOfRange}
use Rattle.dayfile.specs.Records.{Records}
use Rattle.closing.specs.Prices.{first_unpriced}
use Rattle.codes.specs.Cells.{cell}
use Rattle.codes.specs.Sums.{sum_over}
use Rattle.codes.specs.declared.code.Code.{Code}
use Rattle.codes.specs.declared.code.Code.TheVariants.{A1, A2, A3, A4, B1, B2, B3, B4, F1, F2, F3, F4, F5, F6}
use Rattle.codes.specs.declared.table.Table.{Table}
use Rattle.amounts.specs.Amounts.{Scope, first_lacking, lacking, scopes}
use Rattle.charges.specs.Items.{all_fines, all_penalties, fines, penalties}
use Rattle.settlement.specs.Sheets.{ByKind, amount_of, sheet, to_accounts, to_nobody, to_universal_service, to_working_capital}

-- the items of the day: penalties and fines are charged to accounts and paid to the funds. No item is shared, so the
-- meaning of the rule is not used.
abbrev pub items : (ℕ → List ℕ → List ℕ) → Records → Code → ByKind
items parts r A1 = to_nobody
items parts r A2 = to_nobody
items parts r A3 = to_nobody
items parts r A4 = to_nobody
items parts r B1 = to_nobody
items parts r B2 = to_nobody
items parts r B3 = to_nobody
items parts r B4 = to_nobody
items parts r F1 = to_nobody
items parts r F2 = to_nobody
items parts r F3 = to_accounts (λ account. neg_ℤ (penalties r account))
items parts r F4 = to_working_capital (all_penalties r)
items parts r F5 = to_accounts (λ account. neg_ℤ (fines r account))
items parts r F6 = to_universal_service (all_fines r)

abbrev pub item : (ℕ → List ℕ → List ℕ) → Records → Code → ℕ → ℤ
item parts r code party = amount_of r.heading.accounts (items parts r code) party

-- the sheets of some scopes together
abbrev pub sheets : (ℕ → List ℕ → List ℕ) → Records → List Scope → Code → ℕ → ℤ
sheets parts r scopes code party = sum_over (λ scope. sheet parts r scope code party) scopes

-- a cell of the day
abbrev pub day_cell : (ℕ → List ℕ → List ℕ) → Records → Code → ℕ → ℤ
day_cell parts r code party = sheets parts r (scopes r.heading) code party +ℤ item parts r code party

-- every cell of a table is so
abbrev pub Holds : Table → (Code → ℕ → ℤ) → Type 0
Holds t f = (code : Code) (party : ℕ) → cell t code party ≡ f code party

-- a record without a price comes first
abbrev pub or_unpriced : Records → Option Fault → Option Fault
or_unpriced r other = unpriced (first_unpriced r)
  where
    unpriced : Option Place → Option Fault
    unpriced (Some place) = Some (fault_of NoPrice place)
    unpriced None = other

abbrev pub no_purchases : Scope → Fault
no_purchases scope = fault_of NoPurchases (at 0 0 scope)

abbrev pub lacking_fault : Option Scope → Option Fault
lacking_fault None = None
lacking_fault (Some scope) = Some (no_purchases scope)

-- why a day cannot be settled, if so
abbrev pub settle_refusal : Records → Option Fault
settle_refusal r = or_unpriced r (lacking_fault (first_lacking r))

-- why an hour has no sheet, if so
abbrev pub sheet_refusal : Records → ℕ → Option Fault
sheet_refusal r hour =
    cond (hour == 0) (Some (fault_of OutOfRange (at 0 0 hour)))
    (cond (nat_lt r.heading.hours hour) (Some (fault_of AboveHeading (at 0 0 hour)))
    (or_unpriced r (cond (lacking r hour) (Some (no_purchases hour)) None)))

abbrev pub outcome : Option Fault → Result (Unit {0}) Fault
outcome None = Ok tt
outcome (Some fault) = Err fault

-- the table u that a call leaves of t: filled where nothing is against it, and untouched where it is refused
abbrev pub Filled : Option Fault → Table → Table → (Code → ℕ → ℤ) → Type 0
Filled None t u f = Holds u f
Filled (Some fault) t u f = u ≡ t
