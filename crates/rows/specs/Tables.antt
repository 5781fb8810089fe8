-- A table of a book: records of one kind, in the order in which they came.
use Rattle.std.specs.Prelude.{ℕ, suc, Bool, true, cond, not, ◌&&◌, List, [], ◌∷◌, ◌++◌, length, is_some, Some, None, Option, nat_le}
use Rattle.std.specs.Option.{option_map}
use Rattle.faults.specs.declared.refusal.Refusal.{Refusal}
use Rattle.faults.specs.declared.refusal.Refusal.TheVariants.{OutOfRange, AboveHeading, KeyTaken, TableFull}
use Rattle.dayfile.specs.declared.heading.Heading.{Heading}

-- The terms on which a table takes a record.
pub record Terms (X : Type 0) : Type 0 where
  -- do two records have one key?
  pub alike : X → X → Bool
  -- does every field of a record lie in its range?
  pub in_range : X → Bool
  -- are its account, node, hour and interconnection, those that it has, among the heading's?
  pub listed : Heading → X → Bool
  -- how many records the table holds at most
  pub room : ℕ

-- where the first of these stands that passes the test
abbrev pub first_place : {X : Type 0} → (X → Bool) → List X → Option ℕ
first_place test [] = None
first_place test (x ∷ xs) = cond (test x) (Some 0) (option_map suc (first_place test xs))

-- why a record cannot follow these, if so: the first of the four reasons, in this order
abbrev pub row_refusal : {X : Type 0} → Terms X → Heading → List X → X → Option Refusal
row_refusal terms heading xs x =
    cond (not (terms.in_range x)) (Some OutOfRange)
    (cond (not (terms.listed heading x)) (Some AboveHeading)
    (cond (is_some (first_place (terms.alike x) xs)) (Some KeyTaken)
    (cond (nat_le terms.room (length xs)) (Some TableFull) None)))

-- each of the second list is taken after the first list and those before it
abbrev pub taken_after : {X : Type 0} → Terms X → Heading → List X → List X → Bool
taken_after terms heading before [] = true
taken_after terms heading before (x ∷ xs) =
    not (is_some (row_refusal terms heading before x)) && taken_after terms heading (before ++ x ∷ []) xs

-- an empty table would have taken these, in this order
abbrev pub sound_table : {X : Type 0} → Terms X → Heading → List X → Bool
sound_table terms heading xs = taken_after terms heading [] xs
