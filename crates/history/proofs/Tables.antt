-- The cells of a table that is filled by code and party.
use Rattle.std.proofs.Common.{◌≡◌, ℕ, ◌-◌, ◌<◌, ◌≤◌, Bool, true, false, cond, ◌&&◌, eqb, leb, List, [], ◌∷◌, length, get_or, ℤ, pos, is_some, Some, None, Option, sym, refl, ap, ◌∙◌, arith}
use Rattle.std.proofs.lemmas.Int.{ints}
use Rattle.std.proofs.lemmas.Bool.{and_parts, eqb-true, leb-true}
use Rattle.std.specs.List.{flat_map}
use Rattle.dayfile.specs.Records.{Records}
use Rattle.amounts.specs.Amounts.{scopes}
use Rattle.codes.specs.Cells.{amount_at, cell_count}
use Rattle.codes.specs.Codes.{all_codes, basis_of, code_index}
use Rattle.codes.specs.Parties.{party_count, party_numbers, party_place, system_party}
use Rattle.codes.specs.Sums.{sum_over}
use Rattle.codes.specs.declared.code.Code.{Code}
use Rattle.codes.specs.declared.code.Code.TheVariants.{A1}
use Rattle.codes.proofs.Codes.{code_at_index, index_below}
use Rattle.codes.proofs.Places.{found_at, place_below, place_holds}
use Rattle.settlement.specs.Days.{Holds, day_cell, items}
use Rattle.settlement.specs.Sheets.{ByKind, amount_of, on_basis, sheet}
use Rattle.settlement.proofs.Known.{known_account, known_system}
use Rattle.day.specs.Calls.{Parts}
use Rattle.day.specs.Tables.{row_under, table_of}
use Rattle.day.proofs.Filling.{rows_at, rows_length}

-- a function of code and party that is 0 where there is no such party
abbrev pub NobodyElse : (Code → ℕ → ℤ) → Type 0
NobodyElse f = (code : Code) (party : ℕ) → party_place party ≡ None → f code party ≡ pos 0

known_not_none : (q : ℕ) → is_some (party_place q) ≡ true → party_place q ≡ None → {X : Type 0} → X
known_not_none q known none =
    let clash : ◌≡◌ {A = Bool} false true = ap is_some (sym none) ∙ known in
    let z : ◌≡◌ {A = ℕ} 0 1 = cc in
    absurd (omega arith)

-- whom no number names has no amount
pub unnamed : (n : ℕ) → n ≤ 32 → (row : ByKind) (q : ℕ) → party_place q ≡ None → amount_of n row q ≡ pos 0
unnamed n few row q none = accounts (leb 1 q && leb q n) refl
  where
    second_fund : (b : Bool) → eqb q 52 ≡ b → cond b row.universal_service (pos 0) ≡ pos 0
    second_fund true e = known_not_none q (ap (λ k. is_some (party_place k)) (eqb-true q 52 e)) none
    second_fund false e = refl

    first_fund : (b : Bool) → eqb q 51 ≡ b → cond b row.working_capital (cond (eqb q 52) row.universal_service (pos 0)) ≡ pos 0
    first_fund true e = known_not_none q (ap (λ k. is_some (party_place k)) (eqb-true q 51 e)) none
    first_fund false e = second_fund (eqb q 52) refl

    systems : (b : Bool) → (leb 41 q && leb q 44) ≡ b
        → cond b (row.system (q - 40)) (cond (eqb q 51) row.working_capital (cond (eqb q 52) row.universal_service (pos 0))) ≡ pos 0
    systems true e =
        let p = and_parts (leb 41 q) (leb q 44) e in
        let low = leb-true 41 q p.0 in
        let high = leb-true q 44 p.1 in
        let is : system_party (q - 40) ≡ q = omega arith in
        known_not_none q (ap (λ k. is_some (party_place k)) (sym is) ∙ known_system (q - 40) (omega arith) (omega arith)) none
    systems false e = first_fund (eqb q 51) refl

    accounts : (b : Bool) → (leb 1 q && leb q n) ≡ b
        → cond b (row.account q) (cond (leb 41 q && leb q 44) (row.system (q - 40)) (cond (eqb q 51) row.working_capital (cond (eqb q 52) row.universal_service (pos 0)))) ≡ pos 0
    accounts true e =
        let p = and_parts (leb 1 q) (leb q n) e in
        let low = leb-true 1 q p.0 in
        let high = leb-true q n p.1 in
        known_not_none q (known_account q low (omega arith)) none
    accounts false e = systems (leb 41 q && leb q 44) refl

-- the cell at a party's place
at_place : (f : Code → ℕ → ℤ) (code : Code) (party : ℕ) (o : Option ℕ) → party_place party ≡ o → NobodyElse f → amount_at (flat_map (row_under f) all_codes) code o ≡ f code party
at_place f code party None e nobody = sym (nobody code party e)
at_place f code party (Some i) e nobody =
    let below = found_at (λ j. j < party_count) (party_place party) i e (place_below party_numbers party) in
    let holds = found_at (λ j. get_or party_numbers j 0 ≡ party) (party_place party) i e (place_holds party_numbers party) in
    rows_at f party_numbers all_codes (code_index code) i A1 (pos 0) (index_below code) below
    ∙ ap (λ c. f c (get_or party_numbers i 0)) (code_at_index code) ∙ ap (f code) holds

pub table_holds : (f : Code → ℕ → ℤ) → NobodyElse f → Holds (table_of f) f
unfolding table_of
table_holds f nobody code party = at_place f code party (party_place party) refl nobody

pub table_long : (f : Code → ℕ → ℤ) → length (table_of f).cells ≡ cell_count
unfolding table_of
table_long f = rows_length f party_numbers all_codes

-- sheets and days have nothing for others

zero_sum : {X : Type 0} (f : X → ℤ) → ((x : X) → f x ≡ pos 0) → (xs : List X) → sum_over f xs ≡ pos 0
zero_sum f h xs = go xs
  where
    go : (xs : List _) → sum_over f xs ≡ pos 0
    go [] = refl
    go (x ∷ xs) = let a = h x in let b = go xs in omega (arith, ints)

module _ (parts : Parts) (r : Records) (few : r.heading.accounts ≤ 32) where
  pub sheet_nobody : (hour : ℕ) → NobodyElse (sheet parts r hour)
  sheet_nobody hour code party none = unnamed r.heading.accounts few (on_basis (basis_of code) parts r hour code) party none

  pub day_nobody : NobodyElse (day_cell parts r)
  day_nobody code party none =
      let a = zero_sum (λ scope. sheet parts r scope code party) (λ scope. sheet_nobody scope code party none) (scopes r.heading) in
      let b = unnamed r.heading.accounts few (items parts r code) party none in
      omega (arith, ints, a, b)
