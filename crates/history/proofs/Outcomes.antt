-- What the answer of a call tells of how it went.
use Rattle.std.proofs.Common.{◌≡◌, ℕ, Bool, true, false, cond, Some, None, Ok, Err, Option, Result, is_ok, sym, refl, ap, ◌∙◌, arith, MatchResult}
use Rattle.faults.specs.declared.fault.Fault.{Fault}
use Rattle.day.specs.Calls.{fault_in, given}
use Rattle.day.specs.declared.refused.Refused.{Refused}

-- two answers of different kinds are not one
pub ok_not_err : {A B : Type 0} {a : A} {b : B} {X : Type 0} → ◌≡◌ {A = Result A B} (Ok a) (Err b) → X
ok_not_err {A} {B} {a} {b} e = let z : ◌≡◌ {A = ℕ} 0 1 = cc in absurd (omega arith)

-- an Ok that is left once the error was mapped was there before
pub unmapped : {T E D : Type 0} (Q : E → Type 0) (r : Result T E) (s : Result T D) (x : T) → s ≡ Ok x → is_ok s ≡ is_ok r → MatchResult r (λ y. s ≡ Ok y) Q → r ≡ Ok x
unmapped Q (Ok y) s x is same was = cc
unmapped Q (Err e) s x is same was =
    let no : true ≡ false = sym (ap is_ok is) ∙ same in
    let z : ◌≡◌ {A = ℕ} 0 1 = cc in
    absurd (omega arith)

pub some_not_none : {A : Type 0} {a : A} {X : Type 0} → ◌≡◌ {A = Option A} (Some a) None → X
some_not_none {A} {a} e = let z : ◌≡◌ {A = ℕ} 0 1 = cc in absurd (omega arith)

module _ {D E X : Type 0} where
  first : {p q : Result E (Refused D) × X} → p ≡ q → p.0 ≡ q.0
  first e = ap (λ (z : Result E (Refused D) × X). z.0) e

  second : {p q : Result E (Refused D) × X} → p ≡ q → p.1 ≡ q.1
  second e = ap (λ (z : Result E (Refused D) × X). z.1) e

  pub went_well : (o : Option Fault) (d : D) (m : X) (e' : E) (n' : X) (e : E) (n : X) → (Ok e, n) ≡ given o d m e' n' → (o ≡ None) × (e ≡ e') × (n ≡ n')
  went_well (Some f) d m e' n' e n p = ok_not_err (first p)
  went_well None d m e' n' e n p =
      let q : ◌≡◌ {A = Result E (Refused D)} (Ok e) (Ok e') = first p in
      (refl, cc, second p)

  pub was_refused : (o : Option Fault) (d : D) (m : X) (e' : E) (n' : X) (r : Refused D) (n : X) → (Err r, n) ≡ given o d m e' n'
      → (o ≡ Some r.fault) × (r.day ≡ d) × (n ≡ m)
  was_refused None d m e' n' r n p = ok_not_err (sym (first p))
  was_refused (Some f) d m e' n' r n p =
      let q : ◌≡◌ {A = Result E (Refused D)} (Err r) (Err (record { day = d; fault = f })) = first p in
      let s : r ≡ record { day = d; fault = f } = cc in
      (ap (λ (x : Refused D). Some x.fault) (sym s), ap (λ (x : Refused D). x.day) s, second p)

-- the refusal of unsound memory comes before every other
pub nothing_against : (b : Bool) (o : Option Fault) (f : Fault) → cond b o (Some f) ≡ None → (b ≡ true) × (o ≡ None)
nothing_against true o f e = (refl, e)
nothing_against false o f e = some_not_none e

pub in_order : {X : Type 0} (o : Result X Fault) → fault_in o ≡ None → (x : X) × (o ≡ Ok x)
in_order (Ok x) e = (x, refl)
in_order (Err f) e = some_not_none e
