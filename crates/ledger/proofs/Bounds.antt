-- Sums of sound notes are small: a cell has at most one note of each issue.
use Rattle.std.proofs.Common.{◌≡◌, ℕ, zero, suc, ◌+◌, ◌-◌, ◌*◌, ◌<◌, ◌≤◌, Bool, true, false, cond, ◌&&◌, eqb, leb, ◌⊎◌, List, [], ◌∷◌, length, get_or, take, ℤ, pos, ◌+ℤ◌, ◌-ℤ◌, nat_abs, Some, None, Option, sym, refl, ap, subst, inl, inr, ⊎_elim, arith}
use Rattle.std.proofs.lemmas.Int.{ints}
use Rattle.std.proofs.lemmas.Bool.{and_from, and_parts, cases_Bool, eqb-true, leb-false, leb-true}
use Rattle.codes.specs.Cells.{amount_at, cell}
use Rattle.codes.specs.Codes.{code_index, code_number}
use Rattle.codes.specs.Parties.{party_count, party_place}
use Rattle.codes.specs.declared.code.Code.{Code}
use Rattle.codes.specs.declared.table.Table.{Table}
use Rattle.ledger.specs.Issues.{noted}
use Rattle.ledger.specs.Steps.{AllTakeable}
use Rattle.ledger.specs.Notes.{all_within, amount_limit, known, no_note, precedes, sound_after, sound_list, sound_next, sound_note, within, within_limit}
use Rattle.ledger.specs.declared.note.Note.{Note}
use Rattle.ledger.proofs.Keys.{Sound, key, rises, slot, sound_is}

pub sound_front : (k : ℕ) (y : Note) (i : ℕ) (ns : List Note) → sound_after k y ns ≡ true → sound_after k y (take i ns) ≡ true
sound_front k y zero ns e = refl
sound_front k y (suc i) [] e = refl
sound_front k y (suc i) (x ∷ xs) e =
    let p = and_parts (sound_next k y x) (sound_after k x xs) e in
    and_from (sound_next k y x) (sound_after k x (take i xs)) p.0 (sound_front k x i xs p.1)

pub sound_at : (k : ℕ) (y : Note) (ns : List Note) (i : ℕ) → i < length ns → sound_after k y ns ≡ true → sound_note k (get_or ns i no_note) ≡ true
sound_at k y [] i h e = absurd (omega arith)
sound_at k y (x ∷ xs) zero h e = (and_parts (precedes y x) (sound_note k x) (and_parts (sound_next k y x) (sound_after k x xs) e).0).1
sound_at k y (x ∷ xs) (suc i) h e = sound_at k x xs i (omega arith) (and_parts (sound_next k y x) (sound_after k x xs) e).1

-- 1 if a cell's place in an issue has passed
passed : ℕ → ℕ → ℕ
passed s t = cond (leb s t) 1 0

passed_is : (s t : ℕ) → ((s ≤ t) × (passed s t ≡ 1)) ⊎ ((t < s) × (passed s t ≡ 0))
unfolding passed
passed_is s t =
    ⊎_elim (λ (a : leb s t ≡ true). inl (leb-true s t a, ap (λ b. cond b 1 0) a)) (λ (a : leb s t ≡ false). inr (leb-false s t a, ap (λ b. cond b 1 0) a)) (cases_Bool (leb s t))

-- how many notes a cell can still have after a note of an issue
left_over : (k i j s t u : ℕ) → i * 65536 + t < j * 65536 + u → t < 65536 → u < 65536 → j < k → k - j - passed s u ≤ k - i - passed s t
left_over k i j s t u up low low' made = cases (passed_is s t) (passed_is s u)
  where
    cases : ((s ≤ t) × (passed s t ≡ 1)) ⊎ ((t < s) × (passed s t ≡ 0)) → ((s ≤ u) × (passed s u ≡ 1)) ⊎ ((u < s) × (passed s u ≡ 0)) → k - j - passed s u ≤ k - i - passed s t
    cases (inl a) (inl b) = omega (arith, a.0, a.1, b.0, b.1)
    cases (inl a) (inr b) = omega (arith, a.0, a.1, b.0, b.1)
    cases (inr a) (inl b) = omega (arith, a.0, a.1, b.0, b.1)
    cases (inr a) (inr b) = omega (arith, a.0, a.1, b.0, b.1)

-- and one less, if the note is the cell's own
one_less : (k i j t u : ℕ) → i * 65536 + t < j * 65536 + u → t < 65536 → u < 65536 → j < k → suc (k - j - passed u u) ≤ k - i - passed u t
one_less k i j t u up low low' made = cases (passed_is u t) (passed_is u u)
  where
    cases : ((u ≤ t) × (passed u t ≡ 1)) ⊎ ((t < u) × (passed u t ≡ 0)) → ((u ≤ u) × (passed u u ≡ 1)) ⊎ ((u < u) × (passed u u ≡ 0)) → suc (k - j - passed u u) ≤ k - i - passed u t
    cases (inl a) (inl b) = omega (arith, a.0, a.1, b.0, b.1)
    cases (inl a) (inr b) = absurd (omega (arith, b.0))
    cases (inr a) (inl b) = omega (arith, a.0, a.1, b.0, b.1)
    cases (inr a) (inr b) = absurd (omega (arith, b.0))

abbrev place_of : Code → ℕ → ℕ
place_of code party = code_number code * 256 + party

add_within : (a b : ℤ) (m n : ℕ) → nat_abs a ≤ m → nat_abs b ≤ n → nat_abs (a +ℤ b) ≤ m + n
add_within a b m n h g = omega (arith, ints)

noted_after : (k : ℕ) (y : Note) (ns : List Note) (code : Code) (party : ℕ) → slot y < 65536 → y.party < 256 → sound_after k y ns ≡ true
    → nat_abs (noted ns code party) ≤ 100000000000000000 * (k - y.issue - passed (place_of code party) (slot y))
noted_after k y [] code party small low e = omega arith
noted_after k y (x ∷ xs) code party small low e =
    let p = and_parts (sound_next k y x) (sound_after k x xs) e in
    let q = and_parts (precedes y x) (sound_note k x) p.0 in
    let s = sound_is k x q.1 in
    let small' : slot x < 65536 = omega (arith, s.code_high, s.party_high) in
    let up = rises y x small small' low q.0 in
    let ih = noted_after k x xs code party small' (omega (arith, s.party_high)) p.1 in
    step s small' up ih (eqb x.code (code_number code) && eqb x.party party) refl
  where
    step : Sound k x → slot x < 65536 → key y < key x → nat_abs (noted xs code party) ≤ 100000000000000000 * (k - x.issue - passed (place_of code party) (slot x))
        → (b : Bool) → (eqb x.code (code_number code) && eqb x.party party) ≡ b
        → nat_abs (cond b x.amount (pos 0) +ℤ noted xs code party) ≤ 100000000000000000 * (k - y.issue - passed (place_of code party) (slot y))
    step s small' up ih true f =
        let g = and_parts (eqb x.code (code_number code)) (eqb x.party party) f in
        let here : place_of code party ≡ slot x = omega (arith, eqb-true x.code (code_number code) g.0, eqb-true x.party party g.1) in
        let one = one_less k y.issue x.issue (slot y) (slot x) up small small' s.made in
        let one' = subst (λ n. suc (k - x.issue - passed n (slot x)) ≤ k - y.issue - passed n (slot y)) (sym here) one in
        omega (arith, one', add_within x.amount (noted xs code party) 100000000000000000 (100000000000000000 * (k - x.issue - passed (place_of code party) (slot x))) s.limited ih)
    step s small' up ih false f =
        let less = left_over k y.issue x.issue (place_of code party) (slot y) (slot x) up small small' s.made in
        omega (arith, less, add_within (pos 0) (noted xs code party) 0 (100000000000000000 * (k - x.issue - passed (place_of code party) (slot x))) (omega arith) ih)

pub noted_small : (k : ℕ) (ns : List Note) (code : Code) (party : ℕ) → sound_list k ns ≡ true → nat_abs (noted ns code party) ≤ 100000000000000000 * k
noted_small k ns code party e =
    omega (arith, noted_after k no_note ns code party (omega arith) (omega arith) e)

-- the cells of a table within the limit
within_at : (zs : List ℤ) (i : ℕ) → all_within zs ≡ true → nat_abs (get_or zs i (pos 0)) ≤ 100000000000000000
within_at [] i e = omega arith
within_at (z ∷ zs) zero e = leb-true (nat_abs z) amount_limit (and_parts (within z) (all_within zs) e).0
within_at (z ∷ zs) (suc i) e = within_at zs i (and_parts (within z) (all_within zs) e).1

pub cell_small : (t : Table) (code : Code) (party : ℕ) → within_limit t ≡ true → nat_abs (cell t code party) ≤ 100000000000000000
unfolding within_limit
cell_small t code party e = at (party_place party)
  where
    at : (o : Option ℕ) → nat_abs (amount_at t.cells code o) ≤ 100000000000000000
    at None = omega arith
    at (Some place) = within_at t.cells (code_index code * party_count + place) e

sub_within : (a b : ℤ) (m n : ℕ) → nat_abs a ≤ m → nat_abs b ≤ n → nat_abs (a -ℤ b) ≤ m + n
sub_within a b m n h g = omega (arith, ints)

-- so what an issue reckons never wraps
pub takeable : (t : Table) (ns : List Note) (k : ℕ) → within_limit t ≡ true → sound_list k ns ≡ true → k ≤ 3 → AllTakeable t ns
unfolding known
takeable t ns k limit e few = record {
  coded = λ i h.
      let s = sound_is k (get_or ns i no_note) (sound_at k no_note ns i h e) in
      and_from _ _ s.coded s.party_known;
  small = λ i code party.
      omega (arith, sub_within (cell t code party) (noted (take i ns) code party) 100000000000000000 (100000000000000000 * k) (cell_small t code party limit) (noted_small k (take i ns) code party (sound_front k no_note i ns e)));
}
