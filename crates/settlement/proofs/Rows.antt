-- Rows that grow cell by cell, and tables that grow row by row.
use Rattle.std.proofs.Common.{◌≡◌, ℕ, ◌+◌, ◌-◌, ◌<◌, ◌≤◌, false, cond, ◌&&◌, eqb, leb, List, get_or, ℤ, pos, ◌+ℤ◌, sym, refl, ap, ◌∙◌, subst, ⊎_elim, arith}
use lib.IntN.{+ℤ_assoc, +ℤ_idl, +ℤ_idr}
use Rattle.std.proofs.lemmas.Bool.{and_from, and_left, and_right, cases_eq, cases_lt, cond-false, cond-true, eq-eqb, le-leb, lt-leb, ne_eqb}
use Rattle.codes.specs.Cells.{cell, empty_cells}
use Rattle.codes.specs.Codes.{code_count, code_index}
use Rattle.codes.specs.declared.code.Code.{Code}
use Rattle.codes.specs.declared.table.Table.{Table}
use Rattle.codes.proofs.Codes.{index_below, same_code}
use Rattle.codes.proofs.Puts.{empty_cell}
use Rattle.amounts.specs.Amounts.{owned_by}
use Rattle.settlement.specs.Days.{Holds}
use Rattle.settlement.specs.Grown.{Added, Grown, Room, RoomIn, RowAdded}

pub row_none : (t : Table) (code : Code) (f : ℕ → ℤ) → ((q : ℕ) → f q ≡ pos 0) → RowAdded t t code f
row_none t code f z = record { row = λ q. sym (ap (λ v. cell t code q +ℤ v) (z q) ∙ +ℤ_idr (cell t code q)); others = λ d q ne. refl }

-- another name for what a row has grown by
pub row_as : (t u : Table) (code : Code) (f g : ℕ → ℤ) → ((q : ℕ) → f q ≡ g q) → RowAdded t u code f → RowAdded t u code g
row_as t u code f g e w = record { row = λ q. w.row q ∙ ap (λ v. cell t code q +ℤ v) (e q); others = w.others }

-- one cell more
pub row_more : (t u v : Table) (code : Code) (f g : ℕ → ℤ) (party : ℕ) (amount : ℤ)
    → RowAdded t u code f → Added u v code party amount → ((q : ℕ) → g q ≡ f q +ℤ owned_by party q amount) → RowAdded t v code g
row_more t u v code f g party amount w p e = record {
  row = λ q.
      ⊎_elim
      (λ (s : party ≡ q).
      let here : cell v code q ≡ cell u code q +ℤ amount = subst (λ (k : ℕ). cell v code k ≡ cell u code k +ℤ amount) s p.here in
      here ∙ ap (λ z. z +ℤ amount) (w.row q) ∙ +ℤ_assoc (cell t code q) (f q) amount
      ∙ ap (λ z. cell t code q +ℤ z) (sym (e q ∙ ap (λ z. f q +ℤ z) (cond-true (eqb party q) amount (pos 0) (eq-eqb party q s)))))
      (λ (ne : party ≡ q → ⊥).
      p.others code q (λ x. ne (sym x.1)) ∙ w.row q
      ∙ ap (λ z. cell t code q +ℤ z) (sym (e q ∙ ap (λ z. f q +ℤ z) (cond-false (eqb party q) amount (pos 0) (ne_eqb party q ne)) ∙ +ℤ_idr (f q))))
      (cases_eq party q);
  others = λ d q ne. p.others d q (λ x. ne x.0) ∙ w.others d q ne;
}

-- the amounts of the first i accounts
abbrev pub first_amounts : List ℤ → ℕ → ℕ → ℤ
first_amounts xs i party = cond (leb 1 party && leb party i) (get_or xs (party - 1) (pos 0)) (pos 0)

pub first_none : (xs : List ℤ) (q : ℕ) → first_amounts xs 0 q ≡ pos 0
first_none xs q = cond-false (leb 1 q && leb q 0) _ _ (none q)
  where
    none : (q : ℕ) → (leb 1 q && leb q 0) ≡ false
    none q =
        ⊎_elim
        (λ (s : q < 1). and_left (leb 1 q) (leb q 0) (lt-leb 1 q s))
        (λ (s : 1 ≤ q). and_right (leb 1 q) (leb q 0) (lt-leb q 0 s))
        (cases_lt q 1)

pub past_first : (xs : List ℤ) (i q : ℕ) → i < q → first_amounts xs i q ≡ pos 0
past_first xs i q h = cond-false (leb 1 q && leb q i) _ _ (and_right (leb 1 q) (leb q i) (lt-leb q i h))

pub first_more : (xs : List ℤ) (i q : ℕ) → first_amounts xs (i + 1) q ≡ first_amounts xs i q +ℤ owned_by (i + 1) q (get_or xs i (pos 0))
first_more xs i q =
    ⊎_elim
    (λ (s : i + 1 ≡ q).
    let at : q - 1 ≡ i = omega arith in
    cond-true (leb 1 q && leb q (i + 1)) _ _ (and_from (leb 1 q) (leb q (i + 1)) (le-leb 1 q (omega arith)) (le-leb q (i + 1) (omega arith)))
    ∙ ap (λ k. get_or xs k (pos 0)) at
    ∙ sym (ap (λ z. z +ℤ owned_by (i + 1) q (get_or xs i (pos 0))) (past_first xs i q (omega arith)) ∙ +ℤ_idl _ ∙ cond-true (eqb (i + 1) q) _ _ (eq-eqb (i + 1) q s)))
    (λ (ne : i + 1 ≡ q → ⊥).
    ap (λ b. cond (leb 1 q && b) (get_or xs (q - 1) (pos 0)) (pos 0)) (same_test ne)
    ∙ sym (ap (λ z. first_amounts xs i q +ℤ z) (cond-false (eqb (i + 1) q) _ _ (ne_eqb (i + 1) q ne)) ∙ +ℤ_idr _))
    (cases_eq (i + 1) q)
  where
    same_test : (i + 1 ≡ q → ⊥) → leb q (i + 1) ≡ leb q i
    same_test ne =
        ⊎_elim
        (λ (s : i < q). lt-leb q (i + 1) (omega (arith, ne)) ∙ sym (lt-leb q i s))
        (λ (s : q ≤ i). le-leb q (i + 1) (omega arith) ∙ sym (le-leb q i s))
        (cases_lt i q)

-- the rows of the codes before i have grown by f, the others are as they were
pub record Upto (t u : Table) (i : ℕ) (f : Code → ℕ → ℤ) : Type 0 where
  pub done : (d : Code) (q : ℕ) → code_index d < i → cell u d q ≡ cell t d q +ℤ f d q
  pub rest : (d : Code) (q : ℕ) → i ≤ code_index d → cell u d q ≡ cell t d q

pub upto_none : (t : Table) (f : Code → ℕ → ℤ) → Upto t t 0 f
upto_none t f = record { done = λ d q l. absurd (omega arith); rest = λ d q l. refl }

pub upto_more : (t u v : Table) (i : ℕ) (code : Code) (f : Code → ℕ → ℤ) → code_index code ≡ i → Upto t u i f → RowAdded u v code (f code) → Upto t v (i + 1) f
upto_more t u v i code f e w p = record {
  done = λ d q l.
      ⊎_elim
      (λ (s : code_index d ≡ i).
      let same : code ≡ d = same_code code d (e ∙ sym s) in
      subst (λ (k : Code). cell v k q ≡ cell t k q +ℤ f k q) same (p.row q ∙ ap (λ z. z +ℤ f code q) (w.rest code q (omega arith))))
      (λ (ne : code_index d ≡ i → ⊥). p.others d q (λ x. ne (ap code_index x ∙ e)) ∙ w.done d q (omega (arith, ne)))
      (cases_eq (code_index d) i);
  rest = λ d q l. p.others d q (λ x. absurd (omega (arith, ap code_index x))) ∙ w.rest d q (omega arith);
}

pub upto_room : (t u : Table) (i : ℕ) (code : Code) (f : Code → ℕ → ℤ) → code_index code ≡ i → Upto t u i f → Room t → RoomIn u code
upto_room t u i code f e w room q = rw (w.rest code q (omega arith)) (room code q)

pub upto_all : (t u : Table) (i : ℕ) (f : Code → ℕ → ℤ) → code_count ≤ i → Upto t u i f → Grown t u f
upto_all t u i f l w code q = w.done code q (omega (arith, index_below code))

pub empty_room : (t : Table) → t.cells ≡ empty_cells → Room t
empty_room t e code q = rw (empty_cell t e code q) (omega arith)

pub from_empty : (t u : Table) (f : Code → ℕ → ℤ) → t.cells ≡ empty_cells → Grown t u f → Holds u f
from_empty t u f e w code q = w code q ∙ ap (λ z. z +ℤ f code q) (empty_cell t e code q) ∙ +ℤ_idl (f code q)

-- one cell alone
pub row_one : (t u : Table) (code : Code) (party : ℕ) (amount : ℤ) → Added t u code party amount → RowAdded t u code (λ q. owned_by party q amount)
row_one t u code party amount p = row_more t t u code (λ _. pos 0) _ party amount (row_none t code (λ _. pos 0) (λ q. refl)) p (λ q. sym (+ℤ_idl (owned_by party q amount)))
