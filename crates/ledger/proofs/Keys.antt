-- Sound notes by their keys: issue, code and party as one number, which rises from note to note.
use Rattle.std.proofs.Common.{◌≡◌, ℕ, suc, ◌+◌, ◌-◌, ◌*◌, ◌<◌, ◌≤◌, Bool, true, false, cond, not, ◌&&◌, ◌||◌, eqb, ltb, leb, List, [], ◌∷◌, length, nat_abs, is_some, Some, None, Option, refl, ⊎_elim, arith}
use Rattle.std.proofs.lemmas.Bool.{and_parts, eqb-true, false≢true, leb-true, ltb-true, or_cases}
use Rattle.std.specs.Option.{option_map}
use Rattle.codes.specs.Codes.{code_at, code_count, code_of}
use Rattle.codes.specs.Parties.{party_numbers, party_place, place_in}
use Rattle.ledger.specs.Notes.{amount_limit, known, no_note, precedes, sound_after, sound_list, sound_next, sound_note, within}
use Rattle.ledger.specs.declared.note.Note.{Note}

all_below : ℕ → List ℕ → Bool
all_below k [] = true
all_below k (x ∷ xs) = leb x k && all_below k xs

placed_below : (k : ℕ) (xs : List ℕ) (n : ℕ) → all_below k xs ≡ true → is_some (place_in xs n) ≡ true → n ≤ k
unfolding all_below
placed_below k [] n a e = absurd (false≢true e)
placed_below k (x ∷ xs) n a e = step (eqb n x) refl (place_in xs n) (placed_below k xs n (and_parts (leb x k) (all_below k xs) a).1) e
  where
    step : (b : Bool) → eqb n x ≡ b → (o : Option ℕ) → (is_some o ≡ true → n ≤ k) → is_some (cond b (Some 0) (option_map suc o)) ≡ true → n ≤ k
    step true f o g s = omega (arith, eqb-true n x f, leb-true x k (and_parts (leb x k) (all_below k xs) a).0)
    step false f None g s = absurd (false≢true s)
    step false f (Some i) g s = g refl

parties_below : all_below 52 party_numbers ≡ true
unfolding all_below
parties_below = refl

party_below : (n : ℕ) → is_some (party_place n) ≡ true → n ≤ 52
party_below n e = placed_below 52 party_numbers n parties_below e

code_within : (n : ℕ) → is_some (code_of n) ≡ true → (1 ≤ n) × (n ≤ code_count)
code_within n e = step (leb 1 n && leb n code_count) refl e
  where
    step : (b : Bool) → (leb 1 n && leb n code_count) ≡ b → is_some (cond b (Some (code_at (n - 1))) None) ≡ true → (1 ≤ n) × (n ≤ code_count)
    step true f s = let p = and_parts (leb 1 n) (leb n code_count) f in (leb-true 1 n p.0, leb-true n code_count p.1)
    step false f s = absurd (false≢true s)

-- what a sound note is known by
pub record Sound (k : ℕ) (n : Note) : Type 0 where
  pub coded : is_some (code_of n.code) ≡ true
  pub party_known : is_some (party_place n.party) ≡ true
  pub code_low : 1 ≤ n.code
  pub code_high : n.code ≤ 14
  pub party_high : n.party ≤ 52
  pub limited : nat_abs n.amount ≤ 100000000000000000
  pub made : n.issue < k

pub sound_is : (k : ℕ) (n : Note) → sound_note k n ≡ true → Sound k n
unfolding known
sound_is k n e =
    let p = and_parts (known n) (within n.amount && (not (eqb (nat_abs n.amount) 0) && ltb n.issue k)) e in
    let q = and_parts (within n.amount) (not (eqb (nat_abs n.amount) 0) && ltb n.issue k) p.1 in
    let r = and_parts (not (eqb (nat_abs n.amount) 0)) (ltb n.issue k) q.1 in
    let s = and_parts (is_some (code_of n.code)) (is_some (party_place n.party)) p.0 in
    record {
      coded = s.0;
      party_known = s.1;
      code_low = (code_within n.code s.0).0;
      code_high = (code_within n.code s.0).1;
      party_high = party_below n.party s.1;
      limited = leb-true (nat_abs n.amount) amount_limit q.0;
      made = ltb-true n.issue k r.1;
    }

abbrev pub slot : Note → ℕ
slot n = n.code * 256 + n.party

abbrev pub key : Note → ℕ
key n = n.issue * 65536 + slot n

pub rises : (y x : Note) → slot y < 65536 → slot x < 65536 → y.party < 256 → precedes y x ≡ true → key y < key x
rises y x small small' low e =
    ⊎_elim
    (λ (a : ltb y.issue x.issue ≡ true). omega (arith, ltb-true y.issue x.issue a))
    (λ (b : (eqb y.issue x.issue && (ltb y.code x.code || (eqb y.code x.code && ltb y.party x.party))) ≡ true).
    let p = and_parts (eqb y.issue x.issue) (ltb y.code x.code || (eqb y.code x.code && ltb y.party x.party)) b in
    let same = eqb-true y.issue x.issue p.0 in
    ⊎_elim
    (λ (c : ltb y.code x.code ≡ true). omega (arith, ltb-true y.code x.code c))
    (λ (d : (eqb y.code x.code && ltb y.party x.party) ≡ true).
    let q = and_parts (eqb y.code x.code) (ltb y.party x.party) d in
    omega (arith, eqb-true y.code x.code q.0, ltb-true y.party x.party q.1))
    (or_cases _ _ p.1))
    (or_cases _ _ e)

-- so there are not many of them
pub few_after : (k : ℕ) (y : Note) (ns : List Note) → slot y < 65536 → y.party < 256 → sound_after k y ns ≡ true → length ns ≤ k * 65536 - key y
few_after k y [] small low e = omega arith
few_after k y (x ∷ xs) small low e =
    let p = and_parts (sound_next k y x) (sound_after k x xs) e in
    let q = and_parts (precedes y x) (sound_note k x) p.0 in
    let s = sound_is k x q.1 in
    let up = rises y x small (omega (arith, s.code_high, s.party_high)) low q.0 in
    omega (arith, s.code_high, s.party_high, s.made, up, few_after k x xs (omega (arith, s.code_high, s.party_high)) (omega (arith, s.party_high)) p.1)

pub few : (k : ℕ) (ns : List Note) → sound_list k ns ≡ true → length ns ≤ k * 65536
few k ns e = omega (arith, few_after k no_note ns (omega arith) (omega arith) e)
