-- Codes, parties and cells are told by their numbers and places.
use Rattle.std.proofs.Common.{◌≡◌, ℕ, ◌+◌, ◌*◌, ◌/◌, ◌%◌, ◌<◌, Bool, true, false, cond, eqb, ltb, get_or, pos, Some, None, sym, refl, ap, ◌∙◌, arith}
use Rattle.std.proofs.lemmas.Bool.{eqb-true, ltb-true}
use Rattle.codes.specs.Cells.{amount_at, cell, cell_count}
use Rattle.codes.specs.Codes.{code_at, code_count, code_index}
use Rattle.codes.specs.Laws.{NumbersTellCodes, PlacesTellCells, PlacesTellParties}
use Rattle.codes.specs.Parties.{party_count, party_numbers, party_place}
use Rattle.codes.specs.declared.code.Code.TheVariants.{A1, A2, A3, A4, B1, B2, B3, B4, F1, F2, F3, F4, F5, F6}
use Rattle.codes.specs.declared.table.Table.{Table}
use Rattle.codes.specs.declared.table.TableCell.{TableCell}
use Rattle.codes.proofs.Places.{all_below, each_below, same, same_place}

pub numbers_tell_codes : NumbersTellCodes
numbers_tell_codes A1 = (refl, refl)
numbers_tell_codes A2 = (refl, refl)
numbers_tell_codes A3 = (refl, refl)
numbers_tell_codes A4 = (refl, refl)
numbers_tell_codes B1 = (refl, refl)
numbers_tell_codes B2 = (refl, refl)
numbers_tell_codes B3 = (refl, refl)
numbers_tell_codes B4 = (refl, refl)
numbers_tell_codes F1 = (refl, refl)
numbers_tell_codes F2 = (refl, refl)
numbers_tell_codes F3 = (refl, refl)
numbers_tell_codes F4 = (refl, refl)
numbers_tell_codes F5 = (refl, refl)
numbers_tell_codes F6 = (refl, refl)

tested : all_below party_count (λ i. same_place (party_place (get_or party_numbers i 0)) (Some i)) ≡ true
unfolding all_below same_place
tested = refl

pub places_tell_parties : PlacesTellParties
places_tell_parties i h =
    same (party_place (get_or party_numbers i 0)) (Some i) (each_below party_count (λ i. same_place (party_place (get_or party_numbers i 0)) (Some i)) tested i h)

indexes : all_below code_count (λ i. eqb (code_index (code_at i)) i) ≡ true
unfolding all_below
indexes = refl

pub index_at : (i : ℕ) → i < code_count → code_index (code_at i) ≡ i
index_at i h = eqb-true (code_index (code_at i)) i (each_below code_count (λ i. eqb (code_index (code_at i)) i) indexes i h)

abbrev there : Table → ℕ → TableCell
there t place = record { code = code_at (place / party_count); party = get_or party_numbers (place % party_count) 0; amount = get_or t.cells place (pos 0) }

pub places_tell_cells : PlacesTellCells
places_tell_cells t place c e = go (ltb place cell_count) refl e
  where
    go : (b : Bool) → ltb place cell_count ≡ b
        → cond b (Some (there t place)) None ≡ Some c
        → cell t c.code c.party ≡ c.amount
    go false f e = let z : ◌≡◌ {A = ℕ} 0 1 = cc in absurd (omega arith)
    go true f e =
        let small : place < cell_count = ltb-true place cell_count f in
        let q : place / party_count < code_count = omega arith in
        let r : place % party_count < party_count = omega arith in
        let i = code_at (place / party_count) in
        let here : code_index i * party_count + place % party_count ≡ place = omega (arith, index_at (place / party_count) q) in
        let is : there t place ≡ c = cc in
        ap (λ (x : TableCell). cell t x.code x.party) (sym is)
        ∙ ap (amount_at t.cells i) (places_tell_parties (place % party_count) r)
        ∙ ap (λ n. get_or t.cells n (pos 0)) here
        ∙ ap (λ (x : TableCell). x.amount) is
