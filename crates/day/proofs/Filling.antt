-- A table is its cells: two that have the same amount for each code and party are one.
use Rattle.std.proofs.Common.{◌≡◌, ℕ, zero, suc, ◌+◌, ◌*◌, ◌/◌, ◌%◌, ◌<◌, ltb, List, [], ◌∷◌, map, length, get_or, ℤ, pos, Some, None, Option, sym, refl, ap, ◌∙◌, arith, length-append}
use lib.ListN.{length-map}
use Rattle.std.proofs.lemmas.List.FromFn.{fill_by_all}
use Rattle.std.proofs.lemmas.List.{get_or-append-add, get_or_append_left, get_or-map}
use Rattle.std.proofs.lemmas.Bool.{cond-true, lt-ltb}
use Rattle.std.specs.List.{flat_map}
use Rattle.faults.specs.declared.fault.Fault.{Fault}
use Rattle.codes.specs.Cells.{cell_at, cell_count}
use Rattle.codes.specs.Codes.{all_codes, code_at}
use Rattle.codes.specs.Parties.{party_count, party_numbers}
use Rattle.codes.specs.declared.code.Code.{Code}
use Rattle.codes.specs.declared.code.Code.TheVariants.{A1}
use Rattle.codes.specs.declared.table.Table.{Table}
use Rattle.codes.specs.declared.table.TableCell.{TableCell}
use Rattle.codes.proofs.Laws.{places_tell_cells}
use Rattle.settlement.specs.Days.{Filled, Holds}
use Rattle.day.specs.Tables.{filled_with, row_under, table_of}

-- lists of one length with the same elements
same_list : {X : Type 0} (xs ys : List X) (d : X) → length xs ≡ length ys → ((k : ℕ) → k < length ys → get_or xs k d ≡ get_or ys k d) → xs ≡ ys
same_list xs ys d l h =
    fill_by_all (λ k. get_or ys k d) xs (length ys) d l h ∙ sym (fill_by_all (λ k. get_or ys k d) ys (length ys) d refl (λ k _. refl))

module _ {X Y : Type 0} (f : X → ℕ → Y) (parties : List ℕ) where
  pub rows_length : (xs : List X) → length (flat_map (λ x. map (f x) parties) xs) ≡ length xs * length parties
  rows_length [] = omega arith
  rows_length (x ∷ xs) =
      let more = length-append (map (f x) parties) (flat_map (λ x. map (f x) parties) xs) in
      let row = length-map parties (f x) in
      let rest = rows_length xs in
      omega (arith, more, row, rest)

  pub rows_at : (xs : List X) (k j : ℕ) (d : X) (e : Y) → k < length xs → j < length parties
      → get_or (flat_map (λ x. map (f x) parties) xs) (k * length parties + j) e ≡ f (get_or xs k d) (get_or parties j 0)
  rows_at [] k j d e h l = absurd (omega arith)
  rows_at (x ∷ xs) zero j d e h l =
      let row = length-map parties (f x) in
      let at : zero * length parties + j ≡ j = omega arith in
      rw at (get_or_append_left (map (f x) parties) (flat_map (λ x. map (f x) parties) xs) e j (omega (arith, row)) ∙ get_or-map (f x) parties j 0 e l)
  rows_at (x ∷ xs) (suc k) j d e h l =
      let row = length-map parties (f x) in
      let at : suc k * length parties + j ≡ length (map (f x) parties) + (k * length parties + j) = omega (arith, row) in
      rw at (get_or-append-add (map (f x) parties) (flat_map (λ x. map (f x) parties) xs) (k * length parties + j) e ∙ rows_at xs k j d e (omega arith) l)

abbrev pub with_cells : List ℤ → Table
with_cells cells = record { cells = cells }

pub is_table_of : (t : Table) (f : Code → ℕ → ℤ) → length t.cells ≡ cell_count → Holds t f → t ≡ table_of f
unfolding table_of
is_table_of t f long holds =
    let length_is : length (flat_map (row_under f) all_codes) ≡ cell_count = rows_length f party_numbers all_codes in
    ap with_cells
    (same_list t.cells (flat_map (row_under f) all_codes) (pos 0) (long ∙ sym length_is)
    (λ k below.
    let small : k < cell_count = omega (arith, length_is) in
    let c : TableCell = record { code = code_at (k / party_count); party = get_or party_numbers (k % party_count) 0; amount = get_or t.cells k (pos 0) } in
    let found : cell_at t k ≡ Some c = cond-true (ltb k cell_count) (Some c) None (lt-ltb k cell_count small) in
    let here : k / party_count * party_count + k % party_count ≡ k = omega arith in
    sym (places_tell_cells t k c found) ∙ holds c.code c.party
    ∙ sym (rows_at f party_numbers all_codes (k / party_count) (k % party_count) A1 (pos 0) (omega arith) (omega arith))
    ∙ ap (λ n. get_or (flat_map (row_under f) all_codes) n (pos 0)) here))

pub filled_is : (o : Option Fault) (t u : Table) (f : Code → ℕ → ℤ) → length u.cells ≡ cell_count → Filled o t u f → u ≡ filled_with o t f
filled_is None t u f long holds = is_table_of u f long holds
filled_is (Some fault) t u f long same = same
