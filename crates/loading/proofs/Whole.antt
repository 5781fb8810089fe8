-- A load as the calls that it stands for.
use Rattle.std.proofs.Common.{◌≡◌, ℕ, zero, suc, ◌+◌, ◌-◌, ◌<◌, ◌≤◌, Bool, true, false, cond, eqb, ltb, leb, List, [], ◌∷◌, ◌++◌, length, take, drop, is_ok, Some, None, Ok, Err, Option, Result, sym, refl, ap, ◌∙◌, append_assoc, append-nil, arith}
use Rattle.std.specs.List.{flat_map}
use Rattle.std.proofs.lemmas.List.{drop_all, drop_at, drop-drop, get_or_append_left, length-append, length-drop, length-take-le, take-append-drop, take_at}
use Rattle.std.proofs.lemmas.Bool.{eq-eqb, eqb-true, le-leb, le-ltb, leb-true, ltb-false}
use Rattle.faults.specs.Places.{plain}
use Rattle.faults.specs.declared.fault.Fault.{Fault}
use Rattle.faults.specs.declared.fault.Place.{Place}
use Rattle.faults.specs.declared.refusal.Refusal.{Refusal}
use Rattle.faults.specs.declared.refusal.Refusal.TheVariants.{UnknownMark, WrongLength, WrongCount}
use Rattle.dayfile.specs.Marks.{mark_length, mark_of}
use Rattle.dayfile.specs.Records.{Records}
use Rattle.dayfile.specs.declared.mark.Mark.{Mark}
use Rattle.dayfile.specs.declared.mark.Mark.TheVariants as mark
use Rattle.dayfile.specs.declared.record.Record.{Record}
use Rattle.decoding.specs.Decoded.{and_then, count_under, decoded_end, decoded_heading, decoded_record, heading_under, of_length, record_under, whole_mark}
use Rattle.decoding.specs.Fields.{byte}
use Rattle.cutting.specs.Cuts.{cut_at, first_record, front, past, placed_at}
use Rattle.book.specs.Books.{admission, admitted, no_records, record_count, with_record}
use Rattle.book.specs.Soundness.{sound_records}
use Rattle.book.proofs.Keeps.{entering_keeps_sound, opened_is_sound}
use Rattle.closing.specs.Prices.{closing, ended, first_unpriced, priced_or_fault}
use Rattle.loading.specs.Laws.{Accepted, LoadIsOpenEnterClose, LoadedIsSound, entered_in_turn}
use Rattle.loading.specs.Loading.{Step, after_cut, after_end, after_entry, at_offset, file_records, follow, goes_on, is_over, opening, records_from, records_under, step}

-- the two steps behind what was accepted
pub both : {X Y E : Type 0} (o : Result X E) (next : X → Result Y E) (y : Y) → and_then o next ≡ Ok y → (x : X) × (o ≡ Ok x) × (next x ≡ Ok y)
both (Ok x) next y e = (x, refl, e)
both (Err f) next y e = let z : ◌≡◌ {A = ℕ} 0 1 = cc in absurd (omega arith)

after_both : {X Y E : Type 0} (o : Result X E) (next : X → Result Y E) (x : X) (y : Y) → o ≡ Ok x → next x ≡ Ok y → and_then o next ≡ Ok y
after_both o next x y e f = ap (λ p. and_then p next) e ∙ f

-- a record that is cut off stands at the front
taken : (t : Bool) (n : ℕ) (bytes part : List ℕ) → (t ≡ true → n ≤ length bytes)
    → cond t (Ok (take n bytes)) (Err WrongLength) ≡ Ok part → part ++ drop (length part) bytes ≡ bytes
taken true n bytes part le e =
    let cut : take n bytes ≡ part = cc in
    let long : length part ≡ n = sym (ap length cut) ∙ length-take-le n bytes (le refl) in
    ap (λ k. part ++ drop k bytes) long ∙ ap (λ p. p ++ drop n bytes) (sym cut) ∙ take-append-drop n bytes
taken false n bytes part le e = let z : ◌≡◌ {A = ℕ} 0 1 = cc in absurd (omega arith)

in_front : (bytes part : List ℕ) (o : Option Mark) → front bytes o ≡ Ok part → part ++ drop (length part) bytes ≡ bytes
in_front bytes part None e = let z : ◌≡◌ {A = ℕ} 0 1 = cc in absurd (omega arith)
in_front bytes part (Some m) e = taken (leb (mark_length m) (length bytes)) (mark_length m) bytes part (leb-true (mark_length m) (length bytes)) e

first_front : (t : Bool) (bytes part : List ℕ) (o : Option Mark) → cond t (Err UnknownMark) (front bytes o) ≡ Ok part → part ++ drop (length part) bytes ≡ bytes
first_front true bytes part o e = let z : ◌≡◌ {A = ℕ} 0 1 = cc in absurd (omega arith)
first_front false bytes part o e = in_front bytes part o e

unplaced : (offset : ℕ) (o : Result (List ℕ) Refusal) (part : List ℕ) → placed_at offset o ≡ Ok part → o ≡ Ok part
unplaced offset (Ok p) part e = cc
unplaced offset (Err r) part e = let z : ◌≡◌ {A = ℕ} 0 1 = cc in absurd (omega arith)

cut_front : (file : List ℕ) (at : ℕ) (part : List ℕ) → cut_at file at ≡ Ok part → drop at file ≡ part ++ drop (at + length part) file
cut_front file at part e =
    let bytes = drop at file in
    sym (first_front (ltb (length bytes) 2) bytes part (mark_of (byte bytes 0) (byte bytes 1)) (unplaced at (first_record bytes) part e))
    ∙ ap (λ rest. part ++ rest) (drop-drop (length part) at file)

-- a whole record in front of other bytes is cut off
sized_by : (t : Bool) (n : ℕ) (k m : Mark) → (t ≡ true → n ≡ mark_length k) → cond t (Ok k) (Err (plain WrongLength)) ≡ Ok m → (k ≡ m) × (n ≡ mark_length m)
sized_by true n k m l e = let same : k ≡ m = cc in (same, l refl ∙ ap mark_length same)
sized_by false n k m l e = let z : ◌≡◌ {A = ℕ} 0 1 = cc in absurd (omega arith)

sized : (n : ℕ) (o : Option Mark) (m : Mark) → of_length n o ≡ Ok m → (o ≡ Some m) × (n ≡ mark_length m)
sized n None m e = let z : ◌≡◌ {A = ℕ} 0 1 = cc in absurd (omega arith)
sized n (Some k) m e =
    let p = sized_by (eqb n (mark_length k)) n k m (eqb-true n (mark_length k)) e in
    (ap (λ x. Some x) p.0, p.1)

marked : (t : Bool) (n : ℕ) (o : Option Mark) (m : Mark) → (t ≡ false → 2 ≤ n) → cond t (Err (plain UnknownMark)) (of_length n o) ≡ Ok m
    → (2 ≤ n) × (o ≡ Some m) × (n ≡ mark_length m)
marked true n o m l e = let z : ◌≡◌ {A = ℕ} 0 1 = cc in absurd (omega arith)
marked false n o m l e = let p = sized n o m e in (l refl, p.0, p.1)

whole_front : (part rest : List ℕ) (m : Mark) → whole_mark part ≡ Ok m → (2 ≤ length part) × (first_record (part ++ rest) ≡ Ok part)
whole_front part rest m e =
    let p = marked (ltb (length part) 2) (length part) (mark_of (byte part 0) (byte part 1)) m (ltb-false (length part) 2) e in
    let two : 2 ≤ length part = p.0 in
    let all : length (part ++ rest) ≡ length part + length rest = length-append part rest in
    let same_0 : byte (part ++ rest) 0 ≡ byte part 0 = get_or_append_left part rest 0 0 (omega arith) in
    let same_1 : byte (part ++ rest) 1 ≡ byte part 1 = get_or_append_left part rest 0 1 (omega arith) in
    let long : ltb (length (part ++ rest)) 2 ≡ false = le-ltb (length (part ++ rest)) 2 (omega arith) in
    let is : mark_of (byte (part ++ rest) 0) (byte (part ++ rest) 1) ≡ Some m =
    ap (λ k. mark_of k (byte (part ++ rest) 1)) same_0 ∙ ap (mark_of (byte part 0)) same_1 ∙ p.1 in
    let room : leb (mark_length m) (length (part ++ rest)) ≡ true = le-leb (mark_length m) (length (part ++ rest)) (omega (arith, p.2)) in (
      two,
      ap (λ t. cond t (Err UnknownMark) (front (part ++ rest) (mark_of (byte (part ++ rest) 0) (byte (part ++ rest) 1)))) long
          ∙ ap (front (part ++ rest)) is
          ∙ ap (λ t. cond t (Ok (take (mark_length m) (part ++ rest))) (Err WrongLength)) room
          ∙ ap (λ bytes. Ok bytes) (take_at part rest (mark_length m) p.2),
    )

whole_cut : (file : List ℕ) (at : ℕ) (part rest : List ℕ) (m : Mark) → whole_mark part ≡ Ok m → drop at file ≡ part ++ rest → cut_at file at ≡ Ok part
whole_cut file at part rest m e f = ap (λ bytes. placed_at at (first_record bytes)) f ∙ ap (placed_at at) (whole_front part rest m e).1

-- a record to be entered is no end record
no_end : (m : Mark) (part : List ℕ) (x : Record) → record_under m part ≡ Ok x → is_ok (count_under m part) ≡ false
no_end mark.Day part x e = refl
no_end mark.Price part x e = refl
no_end mark.Position part x e = refl
no_end mark.Interconnection part x e = refl
no_end mark.Reserve part x e = refl
no_end mark.Failure part x e = refl
no_end mark.Fine part x e = refl
no_end mark.End part x e = let z : ◌≡◌ {A = ℕ} 0 1 = cc in absurd (omega arith)

-- a record that was entered stands whole, and is no end record
pub record Entry (part : List ℕ) : Type 0 where
  pub letters : Mark
  pub stands : whole_mark part ≡ Ok letters
  pub no_last : is_ok (decoded_end part) ≡ false

entry : (b : Records) (part : List ℕ) (x : Record) → admitted b part ≡ Ok x → Entry part
entry b part x e =
    let p = both (decoded_record part) (admission b) x e in
    let q = both (whole_mark part) (λ m. record_under m part) p.0 p.1 in
    record {
      letters = q.0;
      stands = q.1;
      no_last = ap (λ o. is_ok (and_then o (λ m. count_under m part))) q.1 ∙ no_end q.0 part p.0 q.2;
    }

-- an accepted run of records, and where it stands in the file
pub record Read (file : List ℕ) (at : ℕ) (b r : Records) : Type 0 where
  pub parts : List (List ℕ)
  pub last : List ℕ
  pub rest : drop at file ≡ flat_map (λ part. part) parts ++ last
  pub enters : entered_in_turn b parts ≡ Ok r
  pub closes : closing r last ≡ Ok tt

at_offset_ok : {X : Type 0} (offset : ℕ) (o : Result X Fault) (x : X) → at_offset offset o ≡ Ok x → o ≡ Ok x
at_offset_ok offset (Ok y) x e = e
at_offset_ok offset (Err f) x e = let z : ◌≡◌ {A = ℕ} 0 1 = cc in absurd (omega arith)

closed : (t : Bool) (o : Result (Unit {0}) Fault) (b r : Records) → and_then (cond t o (Err (plain WrongCount))) (λ _. Ok b) ≡ Ok r
    → (t ≡ true) × (o ≡ Ok tt) × (b ≡ r)
closed true (Ok u) b r e = (refl, refl, cc)
closed true (Err f) b r e = let z : ◌≡◌ {A = ℕ} 0 1 = cc in absurd (omega arith)
closed false o b r e = let z : ◌≡◌ {A = ℕ} 0 1 = cc in absurd (omega arith)

-- the end record
read_end : (file : List ℕ) (at : ℕ) (b r : Records) (part : List ℕ) → cut_at file at ≡ Ok part
    → at_offset at (after_end (eqb (at + length part) (length file)) b part) ≡ Ok r → Read file at b r
read_end file at b r part cut e =
    let p = closed (eqb (at + length part) (length file)) (closing b part) b r (at_offset_ok at (after_end (eqb (at + length part) (length file)) b part) r e) in
    let full : at + length part ≡ length file = eqb-true (at + length part) (length file) p.0 in
    record {
      parts = [];
      last = part;
      rest = cut_front file at part cut ∙ ap (λ tail. part ++ tail) (drop_all (at + length part) file (omega arith)) ∙ append-nil part;
      enters = ap (λ x. Ok x) p.2;
      closes = ap (λ x. closing x part) (sym p.2) ∙ p.1;
    }

-- one more record in front
read_more : (file : List ℕ) (at : ℕ) (b r : Records) (part : List ℕ) (x : Record) → cut_at file at ≡ Ok part → admitted b part ≡ Ok x
    → Read file (at + length part) (with_record b x) r → Read file at b r
read_more file at b r part x cut e next = record {
  parts = part ∷ next.parts;
  last = next.last;
  rest = cut_front file at part cut ∙ ap (λ tail. part ++ tail) next.rest ∙ sym (append_assoc part (flat_map (λ p. p) next.parts) next.last);
  enters = ap (λ o. and_then o (λ y. entered_in_turn (with_record b y) next.parts)) e ∙ next.enters;
  closes = next.closes;
}

entered_read : (n : ℕ) (file : List ℕ) (at : ℕ) (b r : Records) (part : List ℕ) (o : Result Record Fault)
    → ((x : Record) → records_from n file (at + length part) (with_record b x) ≡ Ok r → Read file (at + length part) (with_record b x) r)
    → cut_at file at ≡ Ok part → admitted b part ≡ o
    → follow (records_from n file) (after_entry (at + length part) b (at_offset at o)) ≡ Ok r → Read file at b r
entered_read n file at b r part (Ok x) go cut e f = read_more file at b r part x cut e (go x f)
entered_read n file at b r part (Err g) go cut e f = let z : ◌≡◌ {A = ℕ} 0 1 = cc in absurd (omega arith)

part_read : (n : ℕ) (file : List ℕ) (at : ℕ) (b r : Records) (part : List ℕ) (t : Bool)
    → ((x : Record) → records_from n file (at + length part) (with_record b x) ≡ Ok r → Read file (at + length part) (with_record b x) r)
    → cut_at file at ≡ Ok part
    → follow (records_from n file) (cond t (is_over (at_offset at (after_end (eqb (at + length part) (length file)) b part)))
    (after_entry (at + length part) b (at_offset at (admitted b part)))) ≡ Ok r → Read file at b r
part_read n file at b r part true go cut f = read_end file at b r part cut f
part_read n file at b r part false go cut f = entered_read n file at b r part (admitted b part) go cut refl f

cut_read : (n : ℕ) (file : List ℕ) (at : ℕ) (b r : Records) (o : Result (List ℕ) Fault)
    → ((next : ℕ) (x : Record) → records_from n file next (with_record b x) ≡ Ok r → Read file next (with_record b x) r)
    → cut_at file at ≡ o → follow (records_from n file) (after_cut file at b o) ≡ Ok r → Read file at b r
cut_read n file at b r (Ok part) go cut f = part_read n file at b r part (is_ok (decoded_end part)) (go (at + length part)) cut f
cut_read n file at b r (Err g) go cut f = let z : ◌≡◌ {A = ℕ} 0 1 = cc in absurd (omega arith)

pub run_read : (n : ℕ) (file : List ℕ) (at : ℕ) (b r : Records) → records_from n file at b ≡ Ok r → Read file at b r
unfolding records_from
run_read zero file at b r f = let z : ◌≡◌ {A = ℕ} 0 1 = cc in absurd (omega arith)
run_read (suc n) file at b r f =
    cut_read n file at b r (cut_at file at) (λ next x. run_read n file next (with_record b x) r) refl f

-- and the other way: such a run is accepted, with enough turns
over : (n : ℕ) (file : List ℕ) (at : ℕ) (b : Records) (s : Step) (answer : Result Records Fault)
    → length file - at < n → step file at b ≡ s → ((m : ℕ) → length file - at ≤ m → follow (records_from m file) s ≡ answer) → records_from n file at b ≡ answer
unfolding records_from
over zero file at b s answer enough e f = absurd (omega arith)
over (suc m) file at b s answer enough e f = ap (follow (records_from m file)) e ∙ f m (omega arith)

end_step : (file : List ℕ) (at : ℕ) (b : Records) (part : List ℕ) → cut_at file at ≡ Ok part → is_ok (decoded_end part) ≡ true
    → at + length part ≡ length file → closing b part ≡ Ok tt → step file at b ≡ is_over (Ok b)
end_step file at b part cut e full c =
    let tail = after_entry (at + length part) b (at_offset at (admitted b part)) in
    ap (after_cut file at b) cut
    ∙ ap (λ t. cond t (is_over (at_offset at (after_end (eqb (at + length part) (length file)) b part))) tail) e
    ∙ ap (λ t. is_over (at_offset at (after_end t b part))) (eq-eqb (at + length part) (length file) full)
    ∙ ap (λ o. is_over (at_offset at (and_then o (λ _. Ok b)))) c

entry_step : (file : List ℕ) (at : ℕ) (b : Records) (part : List ℕ) (x : Record) → cut_at file at ≡ Ok part → is_ok (decoded_end part) ≡ false
    → admitted b part ≡ Ok x → step file at b ≡ goes_on (at + length part) (with_record b x)
entry_step file at b part x cut e a =
    ap (after_cut file at b) cut
    ∙ ap (λ t. cond t (is_over (at_offset at (after_end (eqb (at + length part) (length file)) b part))) (after_entry (at + length part) b (at_offset at (admitted b part)))) e
    ∙ ap (λ o. after_entry (at + length part) b (at_offset at o)) a

ok_is : {X E : Type 0} (o : Result X E) (x : X) → o ≡ Ok x → is_ok o ≡ true
ok_is o x e = ap is_ok e

pub read_run : (parts : List (List ℕ)) (n : ℕ) (file : List ℕ) (at : ℕ) (b r : Records) (last : List ℕ)
    → at ≤ length file → length file - at < n → drop at file ≡ flat_map (λ part. part) parts ++ last
    → entered_in_turn b parts ≡ Ok r → closing r last ≡ Ok tt → records_from n file at b ≡ Ok r
read_run [] n file at b r last inside enough rest e c =
    let p = both (decoded_end last) (ended r) tt c in
    let q = both (whole_mark last) (λ m. count_under m last) p.0 p.1 in
    let cut : cut_at file at ≡ Ok last = whole_cut file at last [] q.0 q.1 (rest ∙ sym (append-nil last)) in
    let full : at + length last ≡ length file = omega (arith, length-drop at file, ap length rest) in
    let same : b ≡ r = cc in
    over n file at b (is_over (Ok b)) (Ok r) enough
    (end_step file at b last cut (ok_is (decoded_end last) p.0 p.1) full (ap (λ x. closing x last) same ∙ c))
    (λ m l. e)
read_run (part ∷ parts) n file at b r last inside enough rest e c =
    let p = both (admitted b part) (λ x. entered_in_turn (with_record b x) parts) r e in
    let x = p.0 in
    let tail = flat_map (λ bytes. bytes) parts ++ last in
    let here : drop at file ≡ part ++ tail = rest ∙ append_assoc part (flat_map (λ bytes. bytes) parts) last in
    let k = entry b part x p.1 in
    let cut : cut_at file at ≡ Ok part = whole_cut file at part tail k.letters k.stands here in
    let two : 2 ≤ length part = (whole_front part tail k.letters k.stands).0 in
    let long : length file - at ≡ length part + length tail = sym (length-drop at file) ∙ ap length here ∙ length-append part tail in
    let next : drop (at + length part) file ≡ tail =
    sym (drop-drop (length part) at file) ∙ ap (drop (length part)) here ∙ drop_at part tail (length part) refl in
    over n file at b (goes_on (at + length part) (with_record b x)) (Ok r) enough
    (entry_step file at b part x cut k.no_last p.1)
    (λ m l. read_run parts m file (at + length part) (with_record b x) r last (omega arith) (omega arith) next p.2 c)

accepted_from : (file : List ℕ) (b : Records) → file_records file ≡ Ok b → Accepted file b
accepted_from file b e =
    let p = both (opening file) (records_under file) b e in
    let q = both (cut_at file 0) decoded_heading p.0 p.1 in
    let begin : past 0 (cut_at file 0) ≡ 0 + length q.0 = ap (past 0) q.1 in
    let k = run_read (suc (length file)) file (0 + length q.0) (no_records p.0) b
    (ap (λ at. records_from (suc (length file)) file at (no_records p.0)) (sym begin) ∙ p.2) in
    record {
      first = q.0;
      parts = k.parts;
      last = k.last;
      heading = p.0;
      whole = cut_front file 0 q.0 q.1 ∙ ap (λ tail. q.0 ++ tail) k.rest;
      opens = q.2;
      enters = k.enters;
      closes = k.closes;
    }

file_from : (file : List ℕ) (b : Records) → Accepted file b → file_records file ≡ Ok b
file_from file b a =
    let tail = flat_map (λ part. part) a.parts ++ a.last in
    let p = both (whole_mark a.first) (λ m. heading_under m a.first) a.heading a.opens in
    let cut : cut_at file 0 ≡ Ok a.first = whole_cut file 0 a.first tail p.0 p.1 a.whole in
    let long : length file ≡ length a.first + length tail = ap length a.whole ∙ length-append a.first tail in
    let next : drop (0 + length a.first) file ≡ tail =
    ap (λ k. drop k file) (omega arith) ∙ ap (drop (length a.first)) a.whole ∙ drop_at a.first tail (length a.first) refl in
    after_both (opening file) (records_under file) a.heading b
    (after_both (cut_at file 0) decoded_heading a.first a.heading cut a.opens)
    (ap (λ o. records_from (suc (length file)) file (past 0 o) (no_records a.heading)) cut
    ∙ read_run a.parts (suc (length file)) file (0 + length a.first) (no_records a.heading) b a.last
    (omega arith) (omega arith) next a.enters a.closes)

pub load_is_calls : LoadIsOpenEnterClose
load_is_calls file b = (accepted_from file b, file_from file b)

-- entering keeps sound, record after record
turns_sound : (parts : List (List ℕ)) (b r : Records) → sound_records b ≡ true → entered_in_turn b parts ≡ Ok r → sound_records r ≡ true
turns_sound [] b r s e = let same : b ≡ r = cc in ap sound_records (sym same) ∙ s
turns_sound (part ∷ parts) b r s e =
    let p = both (admitted b part) (λ x. entered_in_turn (with_record b x) parts) r e in
    turns_sound parts (with_record b p.0) r (entering_keeps_sound b part p.0 s p.1).0 p.2

priced_from : (o : Option Place) → priced_or_fault o ≡ Ok tt → o ≡ None
priced_from None e = refl
priced_from (Some q) e = let z : ◌≡◌ {A = ℕ} 0 1 = cc in absurd (omega arith)

counted_priced : (t : Bool) (o : Option Place) → cond t (priced_or_fault o) (Err (plain WrongCount)) ≡ Ok tt → o ≡ None
counted_priced true o e = priced_from o e
counted_priced false o e = let z : ◌≡◌ {A = ℕ} 0 1 = cc in absurd (omega arith)

pub loaded_is_sound : LoadedIsSound
loaded_is_sound file b e =
    let a = accepted_from file b e in
    let p = both (decoded_end a.last) (ended b) tt a.closes in
    (turns_sound a.parts (no_records a.heading) b (opened_is_sound a.heading) a.enters, counted_priced (eqb p.0 (1 + record_count b)) (first_unpriced b) p.2)
