-- The notes of an issue are sound, and follow the earlier ones.
use Rattle.std.proofs.Common.{◌≡◌, ℕ, zero, suc, ◌+◌, ◌*◌, ◌<◌, ◌≤◌, Bool, true, false, not, ◌&&◌, eqb, ltb, leb, List, [], ◌∷◌, ◌++◌, ℤ, pos, negsuc, nat_abs, is_some, sym, refl, ap, subst, ⊎_elim, arith}
use Rattle.std.proofs.lemmas.Bool.{and_from, and_parts, cases_lt, eq-eqb, le-leb, leb-true, lt-ltb, ltb-true, ne_eqb, or_left, or_right}
use Rattle.std.specs.List.{flat_map}
use Rattle.codes.specs.Codes.{all_codes, code_number, code_of}
use Rattle.codes.specs.Parties.{party_numbers, party_place}
use Rattle.codes.specs.declared.code.Code.{Code}
use Rattle.codes.proofs.Laws.{numbers_tell_codes}
use Rattle.ledger.specs.Issues.{note_for, notes_of, row_notes}
use Rattle.ledger.specs.Notes.{amount_limit, known, no_note, precedes, sound_after, sound_list, sound_next, sound_note, within}
use Rattle.ledger.specs.declared.note.Note.{Note}
use Rattle.ledger.proofs.Keys.{key, slot, sound_is}

-- a key that rises is an order
pub from_keys : (y x : Note) → slot y < 65536 → slot x < 65536 → y.party < 256 → x.party < 256 → key y < key x → precedes y x ≡ true
from_keys y x a b c d up =
    ⊎_elim (λ (l : y.issue < x.issue). or_left _ _ (lt-ltb y.issue x.issue l))
    (λ (g : x.issue ≤ y.issue).
    or_right _ _ (and_from _ _ (eq-eqb y.issue x.issue (omega arith))
    (⊎_elim (λ (l : y.code < x.code). or_left _ _ (lt-ltb y.code x.code l))
    (λ (h : x.code ≤ y.code). or_right _ _ (and_from _ _ (eq-eqb y.code x.code (omega arith)) (lt-ltb y.party x.party (omega arith))))
    (cases_lt y.code x.code))))
    (cases_lt y.issue x.issue)

-- the last of y and the notes after it
abbrev pub last_of : Note → List Note → Note
last_of y [] = y
last_of y (x ∷ xs) = last_of x xs

pub sound-++ : (k : ℕ) (y : Note) (xs ys : List Note) → sound_after k y xs ≡ true → sound_after k (last_of y xs) ys ≡ true → sound_after k y (xs ++ ys) ≡ true
sound-++ k y [] ys e f = f
sound-++ k y (x ∷ xs) ys e f =
    let p = and_parts (sound_next k y x) (sound_after k x xs) e in
    and_from (sound_next k y x) (sound_after k x (xs ++ ys)) p.0 (sound-++ k x xs ys p.1 f)

last-++ : (y : Note) (xs ys : List Note) → last_of y (xs ++ ys) ≡ last_of (last_of y xs) ys
last-++ y [] ys = refl
last-++ y (x ∷ xs) ys = last-++ x xs ys

-- sound notes stay so when an issue more is made
later : (k : ℕ) (n : Note) → sound_note k n ≡ true → sound_note (k + 1) n ≡ true
later k n e =
    let p = and_parts (known n) (within n.amount && (not (eqb (nat_abs n.amount) 0) && ltb n.issue k)) e in
    let q = and_parts (within n.amount) (not (eqb (nat_abs n.amount) 0) && ltb n.issue k) p.1 in
    let r = and_parts (not (eqb (nat_abs n.amount) 0)) (ltb n.issue k) q.1 in
    let l : n.issue < k + 1 = omega (arith, ltb-true n.issue k r.1) in
    and_from _ _ p.0 (and_from _ _ q.0 (and_from _ _ r.0 (lt-ltb n.issue (k + 1) l)))

pub sound_later : (k : ℕ) (y : Note) (ns : List Note) → sound_after k y ns ≡ true → sound_after (k + 1) y ns ≡ true
sound_later k y [] e = refl
sound_later k y (x ∷ xs) e =
    let p = and_parts (sound_next k y x) (sound_after k x xs) e in
    let q = and_parts (precedes y x) (sound_note k x) p.0 in
    and_from _ _ (and_from _ _ q.0 (later k x q.1)) (sound_later k x xs p.1)

-- a note that others may follow, with a key of at most b
pub record Ends (y : Note) (b : ℕ) : Type 0 where
  pub top : key y ≤ b
  pub slot_low : slot y < 65536
  pub party_low : y.party < 256

pub last_ends : (k b : ℕ) (y : Note) (ns : List Note) → Ends y b → k * 65536 ≤ b → sound_after k y ns ≡ true → Ends (last_of y ns) b
last_ends k b y [] h le e = h
last_ends k b y (x ∷ xs) h le e =
    let p = and_parts (sound_next k y x) (sound_after k x xs) e in
    let s = sound_is k x (and_parts (precedes y x) (sound_note k x) p.0).1 in
    last_ends k b x xs (record {
      top = omega (arith, s.made, s.code_high, s.party_high);
      slot_low = omega (arith, s.code_high, s.party_high);
      party_low = omega (arith, s.party_high);
    }) le p.1

-- parties that rise, each a known one
rising : ℕ → List ℕ → Bool
rising q [] = true
rising q (p ∷ ps) = (ltb q p && leb p 52) && (is_some (party_place p) && rising p ps)

rising_codes : ℕ → List Code → Bool
rising_codes m [] = true
rising_codes m (c ∷ cs) = (ltb m (code_number c) && leb (code_number c) 14) && rising_codes (code_number c) cs

parties_rise : rising 0 party_numbers ≡ true
unfolding rising
parties_rise = refl

codes_rise : rising_codes 0 all_codes ≡ true
unfolding rising_codes
codes_rise = refl

-- notes that follow y, and end below b
record Follows (k : ℕ) (y : Note) (ns : List Note) (b : ℕ) : Type 0 where
  follows : sound_after k y ns ≡ true
  ends : Ends (last_of y ns) b

then : (k : ℕ) (y : Note) (xs ys : List Note) (b c : ℕ) → Follows k y xs b → Follows k (last_of y xs) ys c → Follows k y (xs ++ ys) c
then k y xs ys b c f g = record { follows = sound-++ k y xs ys f.follows g.follows; ends = subst (λ n. Ends n c) (sym (last-++ y xs ys)) g.ends }

raised : (y : Note) (b c : ℕ) → Ends y b → b ≤ c → Ends y c
raised y b c h le = record { top = omega (arith, h.top); slot_low = h.slot_low; party_low = h.party_low }

module _ (number : ℕ) where
  -- where a note of the issue stands
  abbrev at : Code → ℕ → ℕ
  at c p = number * 65536 + (code_number c * 256 + p)

  made : (y : Note) (c : Code) (p b : ℕ) (z : ℤ) → nat_abs z ≤ amount_limit → eqb (nat_abs z) 0 ≡ false → is_some (party_place p) ≡ true → p ≤ 52 → code_number c ≤ 14 → Ends y b → b < at c p
      → Follows (number + 1) y (record { issue = number; code = code_number c; party = p; amount = z } ∷ []) (at c p)
  unfolding known
  made y c p b z small ne k low high h up =
      let x : Note = record { issue = number; code = code_number c; party = p; amount = z } in
      let coded : is_some (code_of (code_number c)) ≡ true = ap is_some (numbers_tell_codes c).0 in
      let sound : sound_note (number + 1) x ≡ true =
      and_from _ _ (and_from _ _ coded k) (and_from _ _ (le-leb (nat_abs z) amount_limit small) (and_from _ _ (ap not ne) (lt-ltb number (number + 1) (omega arith)))) in
      record {
        follows = and_from _ _ (and_from _ _ (from_keys y x h.slot_low (omega arith) h.party_low (omega arith) (omega (arith, h.top))) sound) refl;
        ends = record { top = omega arith; slot_low = omega arith; party_low = omega arith };
      }

  one : (y : Note) (c : Code) (p b : ℕ) (z : ℤ) → nat_abs z ≤ amount_limit → is_some (party_place p) ≡ true → p ≤ 52 → code_number c ≤ 14 → Ends y b → b < at c p
      → Follows (number + 1) y (note_for number c p z) (at c p)
  one y c p b (pos zero) small k low high h up = record { follows = refl; ends = raised y b (at c p) h (omega arith) }
  one y c p b (pos (suc n)) small k low high h up = made y c p b (pos (suc n)) small (ne_eqb (suc n) 0 (λ e. omega arith)) k low high h up
  one y c p b (negsuc n) small k low high h up = made y c p b (negsuc n) small (ne_eqb (suc n) 0 (λ e. omega arith)) k low high h up

  module _ (f : Code → ℕ → ℤ) (small : (c : Code) (p : ℕ) → nat_abs (f c p) ≤ amount_limit) where
    row : (y : Note) (c : Code) (q : ℕ) (ps : List ℕ) → code_number c ≤ 14 → q ≤ 52 → rising q ps ≡ true → Ends y (at c q)
        → Follows (number + 1) y (flat_map (λ p. note_for number c p (f c p)) ps) (at c 255)
    unfolding rising
    row y c q [] high low e h = record { follows = refl; ends = raised y (at c q) (at c 255) h (omega arith) }
    row y c q (p ∷ ps) high low e h =
        let r = and_parts (ltb q p && leb p 52) (is_some (party_place p) && rising p ps) e in
        let s = and_parts (ltb q p) (leb p 52) r.0 in
        let t = and_parts (is_some (party_place p)) (rising p ps) r.1 in
        let low' = leb-true p 52 s.1 in
        let here = one y c p (at c q) (f c p) (small c p) t.0 low' high h (omega (arith, ltb-true q p s.0)) in
        then (number + 1) y (note_for number c p (f c p)) (flat_map (λ p. note_for number c p (f c p)) ps) (at c p) (at c 255) here
        (row (last_of y (note_for number c p (f c p))) c p ps high low' t.1 here.ends)

    whole_row : (y : Note) (c : Code) (b : ℕ) → code_number c ≤ 14 → Ends y b → b ≤ at c 0 → Follows (number + 1) y (row_notes number f party_numbers c) (at c 255)
    unfolding row_notes
    whole_row y c b high h le = row y c 0 party_numbers high (omega arith) parties_rise (raised y b (at c 0) h le)

    rows : (y : Note) (m : ℕ) (cs : List Code) → m ≤ 14 → rising_codes m cs ≡ true → Ends y (number * 65536 + (m * 256 + 255))
        → Follows (number + 1) y (flat_map (row_notes number f party_numbers) cs) (number * 65536 + 3839)
    unfolding rising_codes
    rows y m [] low e h = record { follows = refl; ends = raised y (number * 65536 + (m * 256 + 255)) (number * 65536 + 3839) h (omega arith) }
    rows y m (c ∷ cs) low e h =
        let r = and_parts (ltb m (code_number c) && leb (code_number c) 14) (rising_codes (code_number c) cs) e in
        let s = and_parts (ltb m (code_number c)) (leb (code_number c) 14) r.0 in
        let high = leb-true (code_number c) 14 s.1 in
        let here = whole_row y c (number * 65536 + (m * 256 + 255)) high h (omega (arith, ltb-true m (code_number c) s.0)) in
        then (number + 1) y (row_notes number f party_numbers c) (flat_map (row_notes number f party_numbers) cs) (at c 255) (number * 65536 + 3839) here
        (rows (last_of y (row_notes number f party_numbers c)) (code_number c) cs high r.1 here.ends)

    -- after the notes of the earlier issues
    pub renewed : (ns : List Note) → sound_list number ns ≡ true → sound_list (number + 1) (ns ++ notes_of number f) ≡ true
    unfolding notes_of
    renewed ns e =
        let ends : Ends (last_of no_note ns) (number * 65536 + 255) = last_ends number (number * 65536 + 255) no_note ns (record { top = omega arith; slot_low = omega arith; party_low = omega arith }) (omega arith) e in
        sound-++ (number + 1) no_note ns (flat_map (row_notes number f party_numbers) all_codes) (sound_later number no_note ns e)
        (rows (last_of no_note ns) 0 all_codes (omega arith) codes_rise ends).follows
