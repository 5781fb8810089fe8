-- One byte or one cell more.
use Rattle.std.proofs.Common.{◌≡◌, ℕ, zero, suc, ◌+◌, ◌<◌, ◌≤◌, Bool, true, ◌&&◌, ltb, List, [], ◌∷◌, ◌++◌, map, length, get_or, drop, sym, refl, ap, ◌∙◌, arith}
use Rattle.std.proofs.lemmas.List.FromFn.{map-range_with_len_more}
use Rattle.std.proofs.lemmas.List.{at_drop_all, at_drop_more, flat_map_more}
use Rattle.std.proofs.lemmas.Bool.{and_parts, ltb-true}
use Rattle.std.specs.List.{range_with_len, flat_map}
use Rattle.std.specs.Char.{digit_value}
use Rattle.codes.specs.Cells.{cell_at}
use Rattle.codes.specs.declared.table.Table.{Table}
use Rattle.script.specs.Digits.{in_digits}
use Rattle.script.specs.Sheets.{line_of, lines_to}

pub digits_more : (base : ℕ) (word : List ℕ) (i : ℕ) → i < length word
    → in_digits base (drop i word) ≡ (ltb (digit_value (get_or word i 0)) base && in_digits base (drop (i + 1) word))
digits_more base word i h = at_drop_more (in_digits base) word i 0 h

pub digits_all : (base : ℕ) (word : List ℕ) (i : ℕ) → length word ≤ i → in_digits base (drop i word) ≡ true
digits_all base word i h = at_drop_all (in_digits base) word i h

pub past : (b c : Bool) → b ≡ true → (b && c) ≡ c
past b c e = rw e refl

pub digit_at : (base : ℕ) (word : List ℕ) (i : ℕ) → in_digits base word ≡ true → i < length word → digit_value (get_or word i 0) < base
digit_at base [] i e h = absurd (omega arith)
digit_at base (c ∷ cs) zero e h = ltb-true _ _ (and_parts _ _ e).0
digit_at base (c ∷ cs) (suc i) e h = digit_at base cs i (and_parts (ltb (digit_value c) base) (in_digits base cs) e).1 (omega arith)

pub lines_more : (page : Table) (i : ℕ) → lines_to (i + 1) page ≡ lines_to i page ++ line_of (cell_at page i)
lines_more page i =
    ap (flat_map line_of) (map-range_with_len_more (cell_at page) 0 i i (omega arith)) ∙ sym (flat_map_more line_of [] (map (cell_at page) (range_with_len 0 i)) (cell_at page i))
