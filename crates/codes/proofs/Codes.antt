-- The codes by their places.
use Rattle.std.proofs.Common.{◌≡◌, ℕ, ◌<◌, List, map, get_or, sym, refl, ap, ◌∙◌, arith}
use Rattle.std.proofs.lemmas.List.{get_or-map}
use Rattle.codes.specs.Codes.{all_codes, code_at, code_count, code_index, row_of}
use Rattle.codes.specs.declared.code.Code.{Code}
use Rattle.codes.specs.declared.code.Code.TheVariants.{A1, A2, A3, A4, B1, B2, B3, B4, F1, F2, F3, F4, F5, F6}
use Rattle.codes.specs.declared.code.CodeRow.{CodeRow}

pub code_of_row : (code : Code) → (row_of code).code ≡ code
code_of_row A1 = refl
code_of_row A2 = refl
code_of_row A3 = refl
code_of_row A4 = refl
code_of_row B1 = refl
code_of_row B2 = refl
code_of_row B3 = refl
code_of_row B4 = refl
code_of_row F1 = refl
code_of_row F2 = refl
code_of_row F3 = refl
code_of_row F4 = refl
code_of_row F5 = refl
code_of_row F6 = refl

pub code_at_index : (code : Code) → code_at (code_index code) ≡ code
code_at_index A1 = refl
code_at_index A2 = refl
code_at_index A3 = refl
code_at_index A4 = refl
code_at_index B1 = refl
code_at_index B2 = refl
code_at_index B3 = refl
code_at_index B4 = refl
code_at_index F1 = refl
code_at_index F2 = refl
code_at_index F3 = refl
code_at_index F4 = refl
code_at_index F5 = refl
code_at_index F6 = refl

pub index_below : (code : Code) → code_index code < code_count
index_below A1 = omega arith
index_below A2 = omega arith
index_below A3 = omega arith
index_below A4 = omega arith
index_below B1 = omega arith
index_below B2 = omega arith
index_below B3 = omega arith
index_below B4 = omega arith
index_below F1 = omega arith
index_below F2 = omega arith
index_below F3 = omega arith
index_below F4 = omega arith
index_below F5 = omega arith
index_below F6 = omega arith

-- two codes with one place are one
pub same_code : (c d : Code) → code_index c ≡ code_index d → c ≡ d
same_code c d e = sym (code_at_index c) ∙ ap code_at e ∙ code_at_index d

abbrev pub code_table : List CodeRow
code_table = map row_of all_codes

pub code_in_row : (d : CodeRow) (i : ℕ) → i < code_count → (get_or code_table i d).code ≡ code_at i
code_in_row d i h = ap (λ r. r.code) (get_or-map row_of all_codes i A1 d h) ∙ code_of_row (code_at i)
