-- What the notes of an issue add up to.
use Rattle.std.proofs.Common.{◌≡◌, ℕ, zero, suc, ◌-◌, ◌<◌, Bool, true, false, cond, ◌&&◌, eqb, List, [], ◌∷◌, length, get_or, ℤ, pos, negsuc, ◌+ℤ◌, ◌-ℤ◌, is_some, Some, None, Option, sym, refl, ap, ◌∙◌, subst, ⊎_elim, arith}
use lib.IntN.{+ℤ_idl, +ℤ_idr}
use Rattle.std.proofs.lemmas.Int.{ints}
use Rattle.std.proofs.lemmas.Bool.{and_parts, and_right, cases_eq, cond-false, eq-eqb, false≢true, ne_eqb}
use Rattle.std.specs.List.{flat_map}
use Rattle.codes.specs.Codes.{all_codes, code_index, code_number, code_of}
use Rattle.codes.specs.Parties.{party_count, party_numbers, party_place}
use Rattle.codes.specs.Sums.{sum_over, total}
use Rattle.codes.specs.declared.code.Code.{Code}
use Rattle.codes.specs.declared.code.Code.TheVariants.{A1}
use Rattle.codes.proofs.Codes.{code_at_index, index_below}
use Rattle.codes.proofs.Laws.{index_at, places_tell_parties}
use Rattle.codes.proofs.Places.{found_at, place_below, place_holds}
use Rattle.ledger.specs.Issues.{counted, note_for, noted, notes_of, row_notes}
use Rattle.ledger.specs.Laws.{balance}
use Rattle.ledger.specs.Notes.{precedes, sound_after, sound_next, sound_note}
use Rattle.ledger.specs.declared.note.Note.{Note}
use Rattle.ledger.proofs.Counting.{number_of, sum-++}
use Rattle.ledger.proofs.Keys.{sound_is}

sum_joined : {X Y : Type 0} (f : Y → ℤ) (g : X → List Y) (xs : List X) → sum_over f (flat_map g xs) ≡ sum_over (λ x. sum_over f (g x)) xs
sum_joined f g [] = refl
sum_joined f g (x ∷ xs) = sum-++ f (g x) (flat_map g xs) ∙ ap (λ z. sum_over f (g x) +ℤ z) (sum_joined f g xs)

sum_same : {X : Type 0} {f g : X → ℤ} (xs : List X) → ((x : X) → f x ≡ g x) → sum_over f xs ≡ sum_over g xs
sum_same [] e = refl
sum_same (x ∷ xs) e = λ i. e x i +ℤ sum_same xs e i

sum_none : {X : Type 0} (xs : List X) → sum_over (λ (x : X). pos 0) xs ≡ pos 0
sum_none [] = refl
sum_none (x ∷ xs) = +ℤ_idl _ ∙ sum_none xs

sum_sum : {X : Type 0} (f g : X → ℤ) (xs : List X) → sum_over (λ x. f x +ℤ g x) xs ≡ sum_over f xs +ℤ sum_over g xs
sum_sum f g [] = refl
sum_sum f g (x ∷ xs) = let ih = sum_sum f g xs in omega (arith, ints)

sum_less : {X : Type 0} (f g : X → ℤ) (xs : List X) → sum_over (λ x. f x -ℤ g x) xs ≡ sum_over f xs -ℤ sum_over g xs
sum_less f g [] = refl
sum_less f g (x ∷ xs) = let ih = sum_less f g xs in omega (arith, ints)

-- only the element with a key counts
abbrev only : {X : Type 0} → (X → ℕ) → (X → ℤ) → ℕ → X → ℤ
only key g n x = cond (eqb (key x) n) (g x) (pos 0)

only_none : {X : Type 0} (key : X → ℕ) (g : X → ℤ) (n : ℕ) (d : X) (xs : List X) → ((i : ℕ) → i < length xs → key (get_or xs i d) ≡ n → ⊥) → sum_over (only key g n) xs ≡ pos 0
only_none key g n d [] h = refl
only_none key g n d (x ∷ xs) h =
    ap (λ b. cond b (g x) (pos 0) +ℤ sum_over (only key g n) xs) (ne_eqb (key x) n (h 0 (omega arith)))
    ∙ +ℤ_idl (sum_over (only key g n) xs) ∙ only_none key g n d xs (λ i l. h (suc i) (omega arith))

abbrev Apart : {X : Type 0} → (X → ℕ) → X → List X → Type 0
Apart key d xs = (i j : ℕ) → i < length xs → j < length xs → key (get_or xs i d) ≡ key (get_or xs j d) → i ≡ j

only_one : {X : Type 0} (key : X → ℕ) (g : X → ℤ) (d : X) (xs : List X) (i : ℕ) → Apart key d xs → i < length xs → sum_over (only key g (key (get_or xs i d))) xs ≡ g (get_or xs i d)
only_one key g d [] i apart h = absurd (omega arith)
only_one key g d (x ∷ xs) zero apart h =
    ap (λ b. cond b (g x) (pos 0) +ℤ sum_over (only key g (key x)) xs) (eq-eqb (key x) (key x) refl)
    ∙ ap (λ z. g x +ℤ z) (only_none key g (key x) d xs (λ i l e. let s = apart (suc i) 0 (omega arith) (omega arith) e in omega arith)) ∙ +ℤ_idr (g x)
only_one key g d (x ∷ xs) (suc i) apart h =
    ap (λ b. cond b (g x) (pos 0) +ℤ sum_over (only key g (key (get_or xs i d))) xs) (ne_eqb (key x) (key (get_or xs i d)) (λ e. let s = apart 0 (suc i) (omega arith) h e in omega arith))
    ∙ +ℤ_idl (sum_over (only key g (key (get_or xs i d))) xs)
    ∙ only_one key g d xs i (λ j k l m e. let s = apart (suc j) (suc k) (omega arith) (omega arith) e in omega arith) (omega arith)

-- codes and parties stand once each in their order
codes_apart : Apart code_number A1 all_codes
codes_apart i j h k e = sym (index_at i h) ∙ ap (λ n. n - 1) e ∙ index_at j k

some_same : (i j : ℕ) → Some i ≡ Some j → i ≡ j
some_same i j e = cc

parties_apart : Apart (λ p. p) 0 party_numbers
parties_apart i j h k e = some_same i j (sym (places_tell_parties i h) ∙ ap party_place e ∙ places_tell_parties j k)

-- a party in the list, or not
party_one : (g : ℕ → ℤ) (party i : ℕ) → party_place party ≡ Some i → sum_over (only (λ p. p) g party) party_numbers ≡ g party
party_one g party i e =
    let here : get_or party_numbers i 0 ≡ party = found_at (λ i. get_or party_numbers i 0 ≡ party) (party_place party) i e (place_holds party_numbers party) in
    let low : i < party_count = found_at (λ i. i < party_count) (party_place party) i e (place_below party_numbers party) in
    subst (λ n. sum_over (only (λ p. p) g n) party_numbers ≡ g n) here (only_one (λ p. p) g 0 party_numbers i parties_apart low)

party_none : (g : ℕ → ℤ) (party : ℕ) → party_place party ≡ None → sum_over (only (λ p. p) g party) party_numbers ≡ pos 0
party_none g party e =
    only_none (λ p. p) g party 0 party_numbers
    (λ i l s. let z : ◌≡◌ {A = ℕ} 0 1 = cc (sym (places_tell_parties i l) ∙ ap party_place s ∙ e) in omega arith)

code_one : (g : Code → ℤ) (code : Code) → sum_over (only code_number g (code_number code)) all_codes ≡ g code
code_one g code =
    subst (λ c. sum_over (only code_number g (code_number c)) all_codes ≡ g c) (code_at_index code) (only_one code_number g A1 all_codes (code_index code) codes_apart (index_below code))

-- a note for an amount
either_none : (b : Bool) → pos 0 ≡ cond b (pos 0) (pos 0)
either_none true = refl
either_none false = refl

noted_for : (number : ℕ) (c : Code) (p : ℕ) (z : ℤ) (code : Code) (party : ℕ)
    → noted (note_for number c p z) code party ≡ cond (eqb (code_number c) (code_number code) && eqb p party) z (pos 0)
noted_for number c p (pos zero) code party = either_none (eqb (code_number c) (code_number code) && eqb p party)
noted_for number c p (pos (suc n)) code party = +ℤ_idr _
noted_for number c p (negsuc n) code party = +ℤ_idr _

balance_for : (number : ℕ) (c : Code) (p : ℕ) (z : ℤ) → balance (note_for number c p z) ≡ z
balance_for number c p (pos zero) = refl
balance_for number c p (pos (suc n)) = +ℤ_idr _
balance_for number c p (negsuc n) = +ℤ_idr _

-- a test on the code alone stands before the sum over the parties
test_first : (b : Bool) (party : ℕ) (g : ℕ → ℤ) (ps : List ℕ) → sum_over (λ p. cond (b && eqb p party) (g p) (pos 0)) ps ≡ cond b (sum_over (only (λ p. p) g party) ps) (pos 0)
test_first true party g ps = refl
test_first false party g ps = sum_none ps

module _ (number : ℕ) (f : Code → ℕ → ℤ) where
  noted_row : (ps : List ℕ) (c code : Code) (party : ℕ)
      → noted (row_notes number f ps c) code party ≡ cond (eqb (code_number c) (code_number code)) (sum_over (only (λ p. p) (f c) party) ps) (pos 0)
  unfolding row_notes
  noted_row ps c code party =
      sum_joined (counted code party) (λ p. note_for number c p (f c p)) ps ∙ sum_same ps (λ p. noted_for number c p (f c p) code party)
      ∙ test_first (eqb (code_number c) (code_number code)) party (f c) ps

  noted_rows : (ps : List ℕ) (cs : List Code) (code : Code) (party : ℕ)
      → noted (flat_map (row_notes number f ps) cs) code party ≡ sum_over (only code_number (λ c. sum_over (only (λ p. p) (f c) party) ps) (code_number code)) cs
  noted_rows ps cs code party = sum_joined (counted code party) (row_notes number f ps) cs ∙ sum_same cs (λ c. noted_row ps c code party)

  noted_all : (code : Code) (party : ℕ) → noted (notes_of number f) code party ≡ sum_over (only (λ p. p) (f code) party) party_numbers
  unfolding notes_of
  noted_all code party = noted_rows party_numbers all_codes code party ∙ code_one (λ c. sum_over (only (λ p. p) (f c) party) party_numbers) code

  -- the notes have for each code and party what f has, where there is such a party
  pub noted_new : (code : Code) (party i : ℕ) → party_place party ≡ Some i → noted (notes_of number f) code party ≡ f code party
  noted_new code party i e = noted_all code party ∙ party_one (f code) party i e

  pub noted_nobody : (code : Code) (party : ℕ) → party_place party ≡ None → noted (notes_of number f) code party ≡ pos 0
  noted_nobody code party e = noted_all code party ∙ party_none (f code) party e

  balance_row : (ps : List ℕ) (c : Code) → balance (row_notes number f ps c) ≡ sum_over (f c) ps
  unfolding row_notes
  balance_row ps c = sum_joined (λ (n : Note). n.amount) (λ p. note_for number c p (f c p)) ps ∙ sum_same ps (λ p. balance_for number c p (f c p))

  balance_rows : (ps : List ℕ) (cs : List Code) → balance (flat_map (row_notes number f ps) cs) ≡ sum_over (λ c. sum_over (f c) ps) cs
  balance_rows ps cs = sum_joined (λ (n : Note). n.amount) (row_notes number f ps) cs ∙ sum_same cs (λ c. balance_row ps c)

  pub balance_new : balance (notes_of number f) ≡ total f
  unfolding notes_of
  balance_new = balance_rows party_numbers all_codes

-- totals of two amounts
total_less_in : (f g : Code → ℕ → ℤ) (ps : List ℕ) (cs : List Code)
    → sum_over (λ c. sum_over (λ p. f c p -ℤ g c p) ps) cs ≡ sum_over (λ c. sum_over (f c) ps) cs -ℤ sum_over (λ c. sum_over (g c) ps) cs
total_less_in f g ps cs = sum_same cs (λ c. sum_less (f c) (g c) ps) ∙ sum_less (λ c. sum_over (f c) ps) (λ c. sum_over (g c) ps) cs

pub total_less : (f g : Code → ℕ → ℤ) → total (λ c p. f c p -ℤ g c p) ≡ total f -ℤ total g
total_less f g = total_less_in f g party_numbers all_codes

total_sum_in : (f g : Code → ℕ → ℤ) (ps : List ℕ) (cs : List Code)
    → sum_over (λ c. sum_over (λ p. f c p +ℤ g c p) ps) cs ≡ sum_over (λ c. sum_over (f c) ps) cs +ℤ sum_over (λ c. sum_over (g c) ps) cs
total_sum_in f g ps cs = sum_same cs (λ c. sum_sum (f c) (g c) ps) ∙ sum_sum (λ c. sum_over (f c) ps) (λ c. sum_over (g c) ps) cs

total_none_in : (ps : List ℕ) (cs : List Code) → sum_over (λ (c : Code). sum_over (λ (p : ℕ). pos 0) ps) cs ≡ pos 0
total_none_in ps cs = sum_same cs (λ c. sum_none ps) ∙ sum_none cs

eqb_swap : (a b : ℕ) → eqb a b ≡ eqb b a
eqb_swap a b =
    ⊎_elim (λ (e : a ≡ b). eq-eqb a b e ∙ sym (eq-eqb b a (sym e))) (λ (ne : a ≡ b → ⊥). ne_eqb a b ne ∙ sym (ne_eqb b a (λ e. ne (sym e)))) (cases_eq a b)

-- a note of a known code and party counts once
counted_in : (n : Note) (code : Code) (i : ℕ) → n.code ≡ code_number code → party_place n.party ≡ Some i
    → sum_over (λ c. sum_over (λ p. counted c p n) party_numbers) all_codes ≡ n.amount
counted_in n code i e h =
    sum_same all_codes (λ c.
    sum_same party_numbers (λ p. λ j. cond (swapped c j && eqb_swap n.party p j) n.amount (pos 0))
    ∙ test_first (eqb (code_number c) (code_number code)) n.party (λ p. n.amount) party_numbers)
    ∙ code_one (λ c. sum_over (only (λ p. p) (λ p. n.amount) n.party) party_numbers) code
    ∙ party_one (λ p. n.amount) n.party i h
  where
    swapped : (c : Code) → eqb n.code (code_number c) ≡ eqb (code_number c) (code_number code)
    swapped c = eqb_swap n.code (code_number c) ∙ ap (eqb (code_number c)) e

pub witness : {X : Type 0} (o : Option X) → is_some o ≡ true → (x : X) × (o ≡ Some x)
witness None e = absurd (false≢true e)
witness (Some x) e = (x, refl)

-- so the totals of sound notes over codes and parties are their balance
pub total_noted : (k : ℕ) (y : Note) (ns : List Note) → sound_after k y ns ≡ true → total (noted ns) ≡ balance ns
total_noted k y [] e = total_none_in party_numbers all_codes
total_noted k y (x ∷ xs) e =
    let p = and_parts (sound_next k y x) (sound_after k x xs) e in
    let s = sound_is k x (and_parts (precedes y x) (sound_note k x) p.0).1 in
    let code = witness (code_of x.code) s.coded in
    let place = witness (party_place x.party) s.party_known in
    let ih = total_noted k x xs p.1 in
    total_sum_in (λ c q. counted c q x) (noted xs) party_numbers all_codes
    ∙ (λ i. counted_in x code.0 place.0 (sym (number_of x.code code.0 (sym code.1))) place.1 i +ℤ ih i)

-- sound notes have nothing for a party that there is not
pub noted_unknown : (k : ℕ) (y : Note) (ns : List Note) (code : Code) (party : ℕ) → sound_after k y ns ≡ true → party_place party ≡ None → noted ns code party ≡ pos 0
noted_unknown k y [] code party e h = refl
noted_unknown k y (x ∷ xs) code party e h =
    let p = and_parts (sound_next k y x) (sound_after k x xs) e in
    let s = sound_is k x (and_parts (precedes y x) (sound_note k x) p.0).1 in
    let apart : eqb x.party party ≡ false = ne_eqb x.party party (λ q. false≢true (sym (ap is_some (ap party_place q ∙ h)) ∙ s.party_known)) in
    ap (λ z. z +ℤ noted xs code party) (cond-false _ x.amount (pos 0) (and_right (eqb x.code (code_number code)) (eqb x.party party) apart))
    ∙ +ℤ_idl (noted xs code party) ∙ noted_unknown k x xs code party p.1 h
