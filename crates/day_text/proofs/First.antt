-- The first issue: its notes are few, and it is never refused for want of room.
use Rattle.std.proofs.Common.{◌≡◌, ℕ, zero, suc, ◌+◌, ◌*◌, ◌/◌, ◌%◌, ◌<◌, ◌≤◌, true, ltb, leb, List, [], ◌∷◌, length, get_or, take, ℤ, pos, negsuc, ◌-ℤ◌, nat_abs, Some, None, Ok, Err, sym, refl, ap, ◌∙◌, subst, zero-add, mul-suc, arith, length-append}
use Rattle.std.proofs.lemmas.Int.{ints}
use Rattle.std.proofs.lemmas.Bool.{and_from, cond-true, le-leb, lt-ltb}
use Rattle.std.specs.List.{flat_map}
use Rattle.faults.specs.Places.{plain}
use Rattle.faults.specs.declared.refusal.Refusal.TheVariants.{LedgerFull}
use Rattle.codes.specs.Cells.{cell, cell_at, cell_count}
use Rattle.codes.specs.Codes.{all_codes, code_at}
use Rattle.codes.specs.Parties.{party_count, party_numbers}
use Rattle.codes.specs.declared.code.Code.{Code}
use Rattle.codes.specs.declared.table.Table.{Table}
use Rattle.codes.specs.declared.table.TableCell.{TableCell}
use Rattle.codes.proofs.Laws.{places_tell_cells}
use Rattle.ledger.proofs.Laws.{appended, halves, kept_sound}
use Rattle.ledger.specs.Issues.{issue_answer, issue_leaves, new_notes, note_for, notes_of, row_notes}
use Rattle.ledger.specs.Notes.{all_within, amount_limit, sound_notes, within, within_limit}
use Rattle.ledger.specs.declared.note.Note.{Note}

-- pieces of at most m elements each
joined_few : {X Y : Type 0} (f : X → List Y) (m : ℕ) → ((x : X) → length (f x) ≤ m) → (xs : List X) → length (flat_map f xs) ≤ m * length xs
joined_few f m h [] = omega arith
joined_few f m h (x ∷ xs) =
    let more = length-append (f x) (flat_map f xs) in
    let here = h x in
    let rest = joined_few f m h xs in
    let all = mul-suc m (length xs) in
    omega (arith, more, here, rest, all)

note_few : (number : ℕ) (code : Code) (party : ℕ) (z : ℤ) → length (note_for number code party z) ≤ 1
note_few number code party (pos zero) = omega arith
note_few number code party (pos (suc n)) = omega arith
note_few number code party (negsuc n) = omega arith

row_few : (number : ℕ) (f : Code → ℕ → ℤ) (code : Code) → length (row_notes number f party_numbers code) ≤ party_count
unfolding row_notes
row_few number f code = joined_few (λ party. note_for number code party (f code party)) 1 (λ party. note_few number code party (f code party)) party_numbers

pub notes_few : (number : ℕ) (f : Code → ℕ → ℤ) → length (notes_of number f) ≤ cell_count
unfolding notes_of
notes_few number f = joined_few (row_notes number f party_numbers) party_count (row_few number f) all_codes

less_nothing : (z : ℤ) → z -ℤ pos 0 ≡ z
less_nothing z = omega (arith, ints)

-- each cell of a table is the cell of a code and a party
each_within : (zs : List ℤ) → ((i : ℕ) → i < length zs → within (get_or zs i (pos 0)) ≡ true) → all_within zs ≡ true
each_within [] h = refl
each_within (z ∷ zs) h = and_from (within z) (all_within zs) (h 0 (omega arith)) (each_within zs (λ i k. h (suc i) (omega arith)))

pub cells_within : (t : Table) → length t.cells ≡ cell_count → ((code : Code) (party : ℕ) → nat_abs (cell t code party) ≤ amount_limit / 2) → within_limit t ≡ true
unfolding within_limit
cells_within t n h =
    each_within t.cells
    (λ i k.
    let c : TableCell = record { code = code_at (i / party_count); party = get_or party_numbers (i % party_count) 0; amount = get_or t.cells i (pos 0) } in
    let found : cell_at t i ≡ Some c = cond-true (ltb i cell_count) (Some c) None (lt-ltb i cell_count (omega arith)) in
    let told = places_tell_cells t i c found in
    le-leb (nat_abs (get_or t.cells i (pos 0))) amount_limit (omega (arith, ap nat_abs told, h c.code c.party)))

-- with no earlier notes, a note for each cell that is not 0
pub first_notes : (led : List Note) (number : ℕ) (t : Table) → new_notes led 0 number t ≡ notes_of number (cell t)
first_notes led number t = ap (notes_of number) (λ i code party. less_nothing (cell t code party) i)

-- an issue into an empty ledger with room for every cell
module _ (led : List Note) (t : Table) (room : cell_count ≤ length led) (small : (code : Code) (party : ℕ) → nat_abs (cell t code party) ≤ amount_limit / 2) where
  abbrev new : List Note
  new = new_notes led 0 0 t

  pub none_sound : (issues : ℕ) → sound_notes led 0 issues ≡ true
  none_sound issues = and_from (leb 0 (length led)) true (le-leb 0 (length led) (omega arith)) refl

  pub few : length new ≤ cell_count
  few = rw (first_notes led 0 t) (notes_few 0 (cell t))

  pub accepted : issue_answer led 0 new ≡ Ok (length new)
  accepted = cond-true (leb (0 + length new) (length led)) (Ok (length new)) (Err (plain LedgerFull)) (le-leb (0 + length new) (length led) (omega (arith, few)))

  pub in_front : take (length new) (issue_leaves led 0 new) ≡ notes_of 0 (cell t)
  in_front = ap (λ n. take n (issue_leaves led 0 new)) (sym (zero-add (length new))) ∙ appended led new 0 (omega (arith, few)) ∙ first_notes led 0 t

  pub then_sound : sound_notes (issue_leaves led 0 new) (length new) 1 ≡ true
  then_sound =
      let fits : 0 + length new ≤ length led = omega (arith, few) in
      let near = halves led 0 t small (λ code party. omega arith) in
      let P : ℕ → Type 0 = λ n. sound_notes (issue_leaves led 0 new) n 1 ≡ true in
      subst P (zero-add (length new)) (kept_sound led 0 0 t (none_sound 0) near fits)
