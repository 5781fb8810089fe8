-- A walk along a table, record after record.
use Rattle.std.proofs.Common.{◌≡◌, ℕ, ◌+◌, ◌<◌, ◌≤◌, Bool, true, false, cond, not, ◌&&◌, leb, List, [], ◌∷◌, ◌++◌, length, take, is_some, Some, None, Option, sym, refl, ap, ◌∙◌, append_assoc, append-nil, arith}
use Rattle.std.proofs.Math.Bool.{and-true, and_assoc}
use Rattle.std.proofs.lemmas.Bool.{leb-false}
use Rattle.faults.specs.declared.refusal.Refusal.{Refusal}
use Rattle.faults.specs.declared.refusal.Refusal.TheVariants.{OutOfRange, AboveHeading, KeyTaken, TableFull}
use Rattle.std.proofs.lemmas.Grind.{common_steps}
use Rattle.std.proofs.lemmas.List.{length_push}
use Rattle.std.specs.List.{enumerate_from, list_all}
use Rattle.dayfile.specs.declared.heading.Heading.{Heading}
use Rattle.rows.specs.Tables.{Terms, first_place, row_refusal, sound_table, taken_after}

-- the record at this place is taken after those before it
abbrev pub taken_at : {X : Type 0} → Terms X → Heading → List X → ℕ × X → Bool
taken_at t h xs p = not (is_some (row_refusal t h (take p.0 xs) p.1))

-- the walk from `before` on, record after record
taken_along : {X : Type 0} (t : Terms X) (h : Heading) (whole before xs : List X) (n : ℕ) → whole ≡ before ++ xs → n ≡ length before
    → list_all (taken_at t h whole) (enumerate_from n xs) ≡ taken_after t h before xs
taken_along t h whole before [] n e l = refl
taken_along {X} t h whole before (x ∷ xs) n e l =
    let on : List X → Bool = λ b. not (is_some (row_refusal t h b x)) && list_all (taken_at t h whole) (enumerate_from (n + 1) xs) in
    let gone : take n whole ≡ before = grind (arith, common_steps, e, l) in
    let more : n + 1 ≡ length (before ++ x ∷ []) = omega (arith, l, length_push before x) in
    ap on gone
    ∙ ap (λ b. not (is_some (row_refusal t h before x)) && b) (taken_along t h whole (before ++ x ∷ []) xs (n + 1) (e ∙ sym (append_assoc before (x ∷ []) xs)) more)

pub taken_all : {X : Type 0} (t : Terms X) (h : Heading) (xs : List X) → list_all (taken_at t h xs) (enumerate_from 0 xs) ≡ sound_table t h xs
taken_all t h xs = taken_along t h xs [] xs 0 refl refl

-- one more record at the end
pub taken_push : {X : Type 0} (t : Terms X) (h : Heading) (before xs : List X) (x : X)
    → taken_after t h before (xs ++ x ∷ []) ≡ (taken_after t h before xs && not (is_some (row_refusal t h (before ++ xs) x)))
taken_push t h before [] x =
    and-true (not (is_some (row_refusal t h before x))) ∙ ap (λ b. not (is_some (row_refusal t h b x))) (sym (append-nil before))
taken_push t h before (y ∷ xs) x =
    ap (λ b. not (is_some (row_refusal t h before y)) && b) (taken_push t h (before ++ y ∷ []) xs x)
    ∙ sym (and_assoc (not (is_some (row_refusal t h before y))) (taken_after t h (before ++ y ∷ []) xs) (not (is_some (row_refusal t h ((before ++ y ∷ []) ++ xs) x))))
    ∙ ap (λ b. (not (is_some (row_refusal t h before y)) && taken_after t h (before ++ y ∷ []) xs) && not (is_some (row_refusal t h b x))) (append_assoc before (y ∷ []) xs)

-- the four tests of a record
abbrev pub tested : Bool → Bool → Bool → Bool → Option Refusal
tested ranged named keyed full =
    cond (not ranged) (Some OutOfRange) (cond (not named) (Some AboveHeading) (cond keyed (Some KeyTaken) (cond full (Some TableFull) None)))

free_room : (ranged named keyed full : Bool) → tested ranged named keyed full ≡ None → full ≡ false
free_room false named keyed full e = cc
free_room true false keyed full e = cc
free_room true true true full e = cc
free_room true true false true e = cc
free_room true true false false e = refl

-- a record that is not refused finds room: n is the length of the table, and cap what there is memory for
pub room_left : {X : Type 0} (t : Terms X) (h : Heading) (xs : List X) (x : X) (n cap : ℕ)
    → n ≡ length xs → t.room ≤ cap → row_refusal t h xs x ≡ None → n < cap
room_left t h xs x n cap e r f =
    let full : leb t.room (length xs) ≡ false =
    free_room (t.in_range x) (t.listed h x) (is_some (first_place (t.alike x) xs)) (leb t.room (length xs)) f in
    omega (arith, leb-false t.room (length xs) full)
