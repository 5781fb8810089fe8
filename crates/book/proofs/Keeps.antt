-- What keeps a book sound.
use Rattle.std.proofs.Common.{◌≡◌, ℕ, ◌+◌, Bool, true, false, not, ◌&&◌, eqb, List, [], ◌∷◌, ◌++◌, is_some, Some, None, Ok, Err, Option, Result, sym, refl, ap, ◌∙◌, arith}
use Rattle.std.proofs.lemmas.List.{length_push}
use Rattle.std.proofs.lemmas.Bool.{and_parts, and_from, eq-eqb, eqb-true}
use Rattle.faults.specs.declared.fault.Fault.{Fault}
use Rattle.faults.specs.declared.fault.Place.{Place}
use Rattle.faults.specs.declared.refusal.Refusal.{Refusal}
use Rattle.decoding.specs.Decoded.{and_then, decoded_record, place_of}
use Rattle.dayfile.specs.Headings.{same_fields}
use Rattle.dayfile.specs.Records.{Records}
use Rattle.dayfile.specs.declared.heading.Heading.{Heading}
use Rattle.dayfile.specs.declared.record.Record.{Record}
use Rattle.dayfile.specs.declared.record.Record.TheVariants as kind
use Rattle.rows.specs.Kinds.{price_terms, position_terms, interconnection_terms, reserve_terms, failure_terms, fine_terms}
use Rattle.rows.specs.Tables.{Terms, row_refusal, sound_table}
use Rattle.rows.proofs.Taken.{taken_push}
use Rattle.dayfile.proofs.Made.{same}
use Rattle.book.specs.Books.{admission, counts_of, record_count, record_refusal, unless, with_record}
use Rattle.book.specs.Soundness.{DayTellsHeadingAndCounts, EnteringKeepsSound, OpenedIsSound, SoundIsOfItsDay, SoundWithRecord, same_counts, sound_records}
use Rattle.book.specs.declared.counts.Counts.{Counts}

pub opened_is_sound : OpenedIsSound
opened_is_sound h = refl

-- one table with one more record
pushed : {X : Type 0} (t : Terms X) (h : Heading) (xs : List X) (x : X)
    → sound_table t h (xs ++ x ∷ []) ≡ (sound_table t h xs && not (is_some (row_refusal t h xs x)))
pushed t h xs x = taken_push t h [] xs x

-- the tests of the six tables, and those from the second, third, .. on
abbrev s1 : Records → Bool
s1 b = sound_table price_terms b.heading b.prices

abbrev s2 : Records → Bool
s2 b = sound_table position_terms b.heading b.positions

abbrev s3 : Records → Bool
s3 b = sound_table interconnection_terms b.heading b.interconnections

abbrev s4 : Records → Bool
s4 b = sound_table reserve_terms b.heading b.reserves

abbrev s5 : Records → Bool
s5 b = sound_table failure_terms b.heading b.failures

abbrev s6 : Records → Bool
s6 b = sound_table fine_terms b.heading b.fines

abbrev r5 : Records → Bool
r5 b = s5 b && s6 b

abbrev r4 : Records → Bool
r4 b = s4 b && r5 b

abbrev r3 : Records → Bool
r3 b = s3 b && r4 b

abbrev r2 : Records → Bool
r2 b = s2 b && r3 b

-- a test joined to the first of two, or to the second
swap_in : (a b x : Bool) → ((a && x) && b) ≡ ((a && b) && x)
swap_in true true true = refl
swap_in true true false = refl
swap_in true false true = refl
swap_in true false false = refl
swap_in false b x = refl

here : (a' a b x : Bool) → a' ≡ (a && x) → (a' && b) ≡ ((a && b) && x)
here a' a b x e = ap (λ t. t && b) e ∙ swap_in a b x

deeper : (a b' b x : Bool) → b' ≡ (b && x) → (a && b') ≡ ((a && b) && x)
deeper true b' b x e = e
deeper false b' b x e = refl

-- the record can be entered
free : Records → Record → Bool
free b x = not (is_some (record_refusal b x))

from_2 : (b c : Records) (x : Bool) → s1 c ≡ s1 b → r2 c ≡ (r2 b && x) → sound_records c ≡ (sound_records b && x)
from_2 b c x e f = ap (λ t. t && r2 c) e ∙ deeper (s1 b) (r2 c) (r2 b) x f

from_3 : (b c : Records) (x : Bool) → s1 c ≡ s1 b → s2 c ≡ s2 b → r3 c ≡ (r3 b && x) → sound_records c ≡ (sound_records b && x)
from_3 b c x e g f = from_2 b c x e (ap (λ t. t && r3 c) g ∙ deeper (s2 b) (r3 c) (r3 b) x f)

from_4 : (b c : Records) (x : Bool) → s1 c ≡ s1 b → s2 c ≡ s2 b → s3 c ≡ s3 b → r4 c ≡ (r4 b && x) → sound_records c ≡ (sound_records b && x)
from_4 b c x e g k f = from_3 b c x e g (ap (λ t. t && r4 c) k ∙ deeper (s3 b) (r4 c) (r4 b) x f)

from_5 : (b c : Records) (x : Bool) → s1 c ≡ s1 b → s2 c ≡ s2 b → s3 c ≡ s3 b → s4 c ≡ s4 b → r5 c ≡ (r5 b && x) → sound_records c ≡ (sound_records b && x)
from_5 b c x e g k l f = from_4 b c x e g k (ap (λ t. t && r5 c) l ∙ deeper (s4 b) (r5 c) (r5 b) x f)

pub sound_with_record : SoundWithRecord
unfolding free
sound_with_record b (kind.Price p) =
    let x = kind.Price p in
    here (s1 (with_record b x)) (s1 b) (r2 b) (free b x) (pushed price_terms b.heading b.prices p)
sound_with_record b (kind.Position p) =
    let x = kind.Position p in
    let c = with_record b x in
    from_2 b c (free b x) refl (here (s2 c) (s2 b) (r3 b) (free b x) (pushed position_terms b.heading b.positions p))
sound_with_record b (kind.Interconnection p) =
    let x = kind.Interconnection p in
    let c = with_record b x in
    from_3 b c (free b x) refl refl (here (s3 c) (s3 b) (r4 b) (free b x) (pushed interconnection_terms b.heading b.interconnections p))
sound_with_record b (kind.Reserve p) =
    let x = kind.Reserve p in
    let c = with_record b x in
    from_4 b c (free b x) refl refl refl (here (s4 c) (s4 b) (r5 b) (free b x) (pushed reserve_terms b.heading b.reserves p))
sound_with_record b (kind.Failure p) =
    let x = kind.Failure p in
    let c = with_record b x in
    from_5 b c (free b x) refl refl refl refl (here (s5 c) (s5 b) (s6 b) (free b x) (pushed failure_terms b.heading b.failures p))
sound_with_record b (kind.Fine p) =
    let x = kind.Fine p in
    let c = with_record b x in
    from_5 b c (free b x) refl refl refl refl (deeper (s5 b) (s6 c) (s6 b) (free b x) (pushed fine_terms b.heading b.fines p))

one_more : (b : Records) (x : Record) → record_count (with_record b x) ≡ record_count b + 1
one_more b (kind.Price p) = omega (arith, length_push b.prices p)
one_more b (kind.Position p) = omega (arith, length_push b.positions p)
one_more b (kind.Interconnection p) = omega (arith, length_push b.interconnections p)
one_more b (kind.Reserve p) = omega (arith, length_push b.reserves p)
one_more b (kind.Failure p) = omega (arith, length_push b.failures p)
one_more b (kind.Fine p) = omega (arith, length_push b.fines p)

-- nothing was against what was accepted
pub unless_ok : {X : Type 0} (o : Option Refusal) (place : Place) (x y : X) → unless o place x ≡ Ok y → o ≡ None
unless_ok None place x y e = refl
unless_ok (Some r) place x y e = cc

itself : {X : Type 0} (o : Option Refusal) (place : Place) (x y : X) → unless o place x ≡ Ok y → x ≡ y
itself None place x y e = cc
itself (Some r) place x y e = cc

-- nor against a record that was decoded first
unrefused : (b : Records) (o : Result Record Fault) (x : Record) → and_then o (admission b) ≡ Ok x → record_refusal b x ≡ None
unrefused b (Ok y) x e =
    ap (record_refusal b) (sym (itself (record_refusal b y) (place_of y) y x e)) ∙ unless_ok (record_refusal b y) (place_of y) y x e
unrefused b (Err f) x e = cc

pub entering_keeps_sound : EnteringKeepsSound
entering_keeps_sound b bytes x s e =
    (sound_with_record b x ∙ and_from _ _ s (ap (λ o. not (is_some o)) (unrefused b (decoded_record bytes) x e)), one_more b x)

counted : ℕ → ℕ → ℕ → ℕ → ℕ → ℕ → Counts
counted a b c d e f = record { prices = a; positions = b; interconnections = c; reserves = d; failures = e; fines = f }

-- a number is itself
one : (n : ℕ) → eqb n n ≡ true
one n = eq-eqb n n refl

fields_same : (h : Heading) → same_fields h h ≡ true
fields_same h =
    and_from _ _ (one h.year) (and_from _ _ (one h.month) (and_from _ _ (one h.day) (and_from _ _ (one h.hours)
    (and_from _ _ (one h.accounts) (and_from _ _ (one h.nodes) (one h.interconnections))))))

counts_same : (c : Counts) → same_counts c c ≡ true
counts_same c =
    and_from _ _ (one c.prices) (and_from _ _ (one c.positions) (and_from _ _ (one c.interconnections)
    (and_from _ _ (one c.reserves) (and_from _ _ (one c.failures) (one c.fines)))))

pub sound_is_of_its_day : SoundIsOfItsDay
sound_is_of_its_day b =
    ap (λ t. t && (same_counts (counts_of b) (counts_of b) && sound_records b)) (fields_same b.heading)
    ∙ ap (λ t. t && sound_records b) (counts_same (counts_of b))

-- `counted` is shut here, so that `cc` takes it for a function
counted_same : (a b c d e f a' b' c' d' e' f' : ℕ) → a ≡ a' → b ≡ b' → c ≡ c' → d ≡ d' → e ≡ e' → f ≡ f' → counted a b c d e f ≡ counted a' b' c' d' e' f'
counted_same a b c d e f a' b' c' d' e' f' p q r s t u = cc

counts_from : (c d : Counts) → same_counts c d ≡ true → d ≡ c
unfolding counted
counts_from c d e =
    let p = and_parts (eqb c.prices d.prices) _ e in
    let q = and_parts (eqb c.positions d.positions) _ p.1 in
    let r = and_parts (eqb c.interconnections d.interconnections) _ q.1 in
    let s = and_parts (eqb c.reserves d.reserves) _ r.1 in
    let t = and_parts (eqb c.failures d.failures) (eqb c.fines d.fines) s.1 in
    counted_same d.prices d.positions d.interconnections d.reserves d.failures d.fines
    c.prices c.positions c.interconnections c.reserves c.failures c.fines
    (sym (eqb-true _ _ p.0)) (sym (eqb-true _ _ q.0)) (sym (eqb-true _ _ r.0)) (sym (eqb-true _ _ s.0)) (sym (eqb-true _ _ t.0)) (sym (eqb-true _ _ t.1))

pub day_tells : DayTellsHeadingAndCounts
day_tells heading counts b e =
    let p = and_parts (same_fields heading b.heading) (same_counts counts (counts_of b) && sound_records b) e in
    let q = and_parts (same_counts counts (counts_of b)) (sound_records b) p.1 in
    (sym (same heading b.heading p.0), counts_from counts (counts_of b) q.0, q.1)
