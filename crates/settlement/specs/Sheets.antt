-- The sheet of a scope: an amount for every code and party.
use Rattle.std.specs.Prelude.{ℕ, ◌-◌, cond, ◌&&◌, List, ℤ, pos, neg_ℤ, ◌==◌, nat_le, slice_index_or}
use Rattle.dayfile.specs.Records.{Records}
use Rattle.sharing.specs.Signed.{signed_parts}
use Rattle.codes.specs.Codes.{basis_of}
use Rattle.codes.specs.declared.code.Basis.{Basis}
use Rattle.codes.specs.declared.code.Basis.TheVariants.{Own, Purchases}
use Rattle.codes.specs.declared.code.Code.{Code}
use Rattle.codes.specs.declared.code.Code.TheVariants.{A1, A2, A3, A4, B1, B2, B3, B4, F1, F2, F3, F4, F5, F6}
use Rattle.amounts.specs.Amounts.{Scope, energy, imbalance, reserve, shared, weights}
use Rattle.valuation.specs.declared.market.Market.TheVariants.{DayAhead, RealTime}

-- what the parties of each kind have under a code: accounts and external systems by their numbers from 1, and the two funds
pub record ByKind : Type 0 where
  pub account : ℕ → ℤ
  pub system : ℕ → ℤ
  pub working_capital : ℤ
  pub universal_service : ℤ

abbrev pub to_nobody : ByKind
to_nobody = record { account = λ _. pos 0; system = λ _. pos 0; working_capital = pos 0; universal_service = pos 0 }

abbrev pub to_accounts : (ℕ → ℤ) → ByKind
to_accounts amount = record { account = amount; system = λ _. pos 0; working_capital = pos 0; universal_service = pos 0 }

abbrev pub to_systems : (ℕ → ℤ) → ByKind
to_systems amount = record { account = λ _. pos 0; system = amount; working_capital = pos 0; universal_service = pos 0 }

abbrev pub to_working_capital : ℤ → ByKind
to_working_capital amount = record { account = λ _. pos 0; system = λ _. pos 0; working_capital = amount; universal_service = pos 0 }

abbrev pub to_universal_service : ℤ → ByKind
to_universal_service amount = record { account = λ _. pos 0; system = λ _. pos 0; working_capital = pos 0; universal_service = amount }

-- the amount of a party, by its number, in a day of so many accounts; 0 where there is no such party
abbrev pub amount_of : ℕ → ByKind → ℕ → ℤ
amount_of accounts row party =
    cond (nat_le 1 party && nat_le party accounts) (row.account party)
    (cond (nat_le 41 party && nat_le party 44) (row.system (party - 40))
    (cond (party == 51) row.working_capital
    (cond (party == 52) row.universal_service (pos 0))))

-- what the parties' own records come to, under the codes that are not shared
abbrev pub own : Records → Scope → Code → ByKind
own r scope A1 = to_accounts (energy r DayAhead scope)
own r scope A2 = to_nobody
own r scope A3 = to_accounts (reserve r DayAhead scope)
own r scope A4 = to_nobody
own r scope B1 = to_accounts (energy r RealTime scope)
own r scope B2 = to_nobody
own r scope B3 = to_accounts (reserve r RealTime scope)
own r scope B4 = to_nobody
own r scope F1 = to_nobody
own r scope F2 = to_systems (λ system. neg_ℤ (imbalance r scope system))
own r scope F3 = to_nobody
own r scope F4 = to_nobody
own r scope F5 = to_nobody
own r scope F6 = to_nobody

-- an account's part of the amount that a code shares, under a rule's meaning
abbrev pub part : (ℕ → List ℕ → List ℕ) → Records → Scope → Code → ℕ → ℤ
part parts r scope code account = slice_index_or (signed_parts parts (shared r scope code) (weights (basis_of code) r scope)) (account - 1) (pos 0)

-- by its basis a code is shared or not
abbrev pub on_basis : Basis → (ℕ → List ℕ → List ℕ) → Records → Scope → Code → ByKind
on_basis Own parts r scope code = own r scope code
on_basis Purchases parts r scope code = to_accounts (part parts r scope code)

abbrev pub sheet : (ℕ → List ℕ → List ℕ) → Records → Scope → Code → ℕ → ℤ
sheet parts r scope code party = amount_of r.heading.accounts (on_basis (basis_of code) parts r scope code) party
