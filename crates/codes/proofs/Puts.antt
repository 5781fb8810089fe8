-- One cell of a table put.
use Rattle.std.proofs.Common.{◌≡◌, ℕ, ◌+◌, ◌*◌, ◌<◌, ◌≢◌, length, get_or, set, ℤ, pos, is_some, Some, None, Option, refl, ap, ◌∙◌, arith, get_or-set_other, get_or-set_same}
use Rattle.std.proofs.lemmas.List.{get_or-replicate}
use Rattle.codes.specs.Cells.{Put, amount_at, cell, cell_count, empty_cells}
use Rattle.codes.specs.Codes.{code_index}
use Rattle.codes.specs.Parties.{party_count, party_numbers, party_place}
use Rattle.codes.specs.declared.code.Code.{Code}
use Rattle.codes.specs.declared.table.Table.{Table}
use Rattle.codes.proofs.Codes.{index_below, same_code}
use Rattle.codes.proofs.Places.{found_at, place_below, same_party}

place_small : (n i : ℕ) → party_place n ≡ Some i → i < party_count
place_small n i e = found_at (λ i. i < party_count) (party_place n) i e (place_below party_numbers n)

-- two cells at one place are one
one_place : (c d : Code) (i j : ℕ) → i < party_count → j < party_count → code_index c * party_count + i ≡ code_index d * party_count + j → (c ≡ d) × (i ≡ j)
one_place c d i j h k e = (same_code c d (omega arith), omega arith)

module _ (t u : Table) (code : Code) (party : ℕ) (amount : ℤ) where
  pub put_nowhere : party_place party ≡ None → u.cells ≡ t.cells → Put t u code party amount
  put_nowhere e same = record {
    here = λ some. let z : ◌≡◌ {A = ℕ} 0 1 = cc (ap is_some e) in absurd (omega arith);
    others = λ d q ne. ap (λ cs. amount_at cs d (party_place q)) same;
  }

  pub put_somewhere : (i : ℕ) → party_place party ≡ Some i → length t.cells ≡ cell_count → u.cells ≡ set t.cells (code_index code * party_count + i) amount → Put t u code party amount
  put_somewhere i e long is = record {
    here = λ some.
        let within : code_index code * party_count + i < length t.cells = omega (arith, index_below code, place_small party i e) in
        ap (amount_at u.cells code) e ∙ ap (λ cs. get_or cs (code_index code * party_count + i) (pos 0)) is ∙ get_or-set_same t.cells (code_index code * party_count + i) amount (pos 0) within;
    others = λ d q ne. ap (λ cs. amount_at cs d (party_place q)) is ∙ rest d q ne (party_place q) refl;
  }
    where
      rest : (d : Code) (q : ℕ) → ((d ≡ code) × (q ≡ party) → ⊥) → (o : Option ℕ) → party_place q ≡ o → amount_at (set t.cells (code_index code * party_count + i) amount) d o ≡ amount_at t.cells d o
      rest d q ne None f = refl
      rest d q ne (Some j) f =
          let apart : code_index d * party_count + j ≢ code_index code * party_count + i = λ s.
          let p = one_place d code j i (place_small q j f) (place_small party i e) s in
          ne (p.0, same_party q party i (f ∙ ap (λ n. Some n) p.1) e) in
          get_or-set_other t.cells (code_index code * party_count + i) (code_index d * party_count + j) amount (pos 0) apart

-- an empty table has 0 for every code and party
pub empty_cell : (t : Table) → t.cells ≡ empty_cells → (code : Code) (party : ℕ) → cell t code party ≡ pos 0
empty_cell t e code party = ap (λ cs. amount_at cs code (party_place party)) e ∙ at (party_place party) refl
  where
    at : (o : Option ℕ) → party_place party ≡ o → amount_at empty_cells code o ≡ pos 0
    at None f = refl
    at (Some i) f = get_or-replicate cell_count (code_index code * party_count + i) (pos 0) (pos 0) (omega (arith, index_below code, place_small party i f))
