-- Room that a statement always fits.
use Rattle.std.proofs.Common.{◌≡◌, ℕ, ◌*◌, ◌<◌, ◌≤◌, Bool, true, false, cond, T, eqb, leb, List, [], ◌∷◌, length, take, nat_abs, is_some, Some, None, decimal, Option, refl, ap, arith, length-append, length-take}
use Rattle.std.proofs.lemmas.Fmt.{length-decimal-le}
use Rattle.std.proofs.lemmas.Bool.{and_parts, cond-true, le-leb, leb-true}
use Rattle.std.specs.List.{flat_map}
use Rattle.codes.specs.Codes.{code_of}
use Rattle.codes.specs.declared.code.Code.{Code}
use Rattle.dayfile.specs.Calendar.{days_in, real_heading, within}
use Rattle.dayfile.specs.declared.heading.Heading.{Heading}
use Rattle.ledger.specs.Notes.{no_note, precedes, sound_after, sound_list, sound_notes, sound_next, sound_note}
use Rattle.ledger.specs.declared.note.Note.{Note}
use Rattle.ledger.proofs.Keys.{Sound, few, sound_is}
use Rattle.text.specs.Written.{length_if_fits}
use Rattle.statement.specs.Lines.{line_under, note_line}
use Rattle.statement.specs.Statements.{first_line, last_line, of_issue, statement_room, statement_text}
use Rattle.statement.proofs.Lengths.{length_amount_line, magnitude_is}
use Rattle.statement.proofs.Stated.{length_text, of_issue_front}

holds : (b : Bool) → T b → b ≡ true
holds true t = refl
holds false t = absurd t

hours_within : (h : Heading) → h.hours ≤ 25
hours_within h =
    let all : real_heading h.year h.month h.day h.hours h.accounts h.nodes h.interconnections ≡ true = holds _ h.real in
    let p = and_parts (within 2016 2099 h.year) _ all in
    let q = and_parts (within 1 12 h.month) _ p.1 in
    let r = and_parts (within 1 (days_in h.year h.month) h.day) _ q.1 in
    let s = and_parts (within 23 25 h.hours) _ r.1 in
    leb-true h.hours 25 (and_parts (leb 23 h.hours) (leb h.hours 25) s.0).1

first_room : (h : Heading) (number : ℕ) → number < 256 → length (first_line h number) ≤ 22
unfolding first_line
first_room h number small =
    let a = length-decimal-le 2 h.hours (omega arith) (omega (arith, hours_within h)) (omega (arith, hours_within h)) in
    let b = length-decimal-le 3 number (omega arith) (omega arith) (omega arith) in
    simp length-append (omega (arith, a, b))

last_room : (count : ℕ) → count ≤ 16711680 → length (last_line count) ≤ 13
unfolding last_line
last_room count small =
    let a = length-decimal-le 8 count (omega arith) (omega arith) (omega arith) in
    simp length-append (omega (arith, a))

note_room : (k : ℕ) (n : Note) → sound_note k n ≡ true → length (note_line n) ≤ 27
note_room k n e = under (code_of n.code)
  where
    s : Sound k n
    s = sound_is k n e

    under : (o : Option Code) → length (line_under o n.party n.amount) ≤ 27
    under None = omega arith
    under (Some code) =
        let m = magnitude_is n.amount in
        let p = length-decimal-le 2 n.party (omega arith) (omega (arith, s.party_high)) (omega (arith, s.party_high)) in
        let q = length-decimal-le 18 (nat_abs n.amount) (omega arith) (omega (arith, s.limited)) (omega (arith, s.limited)) in
        omega (arith, length_amount_line code n.party n.amount, p, q, ap (λ z. length (decimal z)) m)

lines_room : (k number : ℕ) (y : Note) (ns : List Note) → sound_after k y ns ≡ true → length (flat_map note_line (of_issue number ns)) ≤ 27 * length ns
lines_room k number y [] e = omega arith
lines_room k number y (x ∷ xs) e =
    let p = and_parts (sound_next k y x) (sound_after k x xs) e in
    let r = note_room k x (and_parts (precedes y x) (sound_note k x) p.0).1 in
    let ih = lines_room k number x xs p.1 in
    step (eqb x.issue number) r ih
  where
    step : (b : Bool) → length (note_line x) ≤ 27 → length (flat_map note_line (of_issue number xs)) ≤ 27 * length xs
        → length (flat_map note_line (cond b (x ∷ of_issue number xs) (of_issue number xs))) ≤ 27 * length (x ∷ xs)
    step true r ih = omega (arith, length-append (note_line x) (flat_map note_line (of_issue number xs)))
    step false r ih = omega arith

pub text_room : (h : Heading) (k number : ℕ) (ns : List Note) → k < 256 → number < 256 → sound_list k ns ≡ true
    → length (statement_text h ns number) ≤ statement_room (length ns)
text_room h k number ns small small' e =
    let n = few k ns e in
    omega (arith, length_text h ns number, first_room h number small', lines_room k number no_note ns e, last_room (length (of_issue number ns)) (omega (arith, of_issue_front number ns)))

pub few_in : (ledger : List Note) (count k : ℕ) → k < 256 → sound_notes ledger count k ≡ true → length (take count ledger) ≤ 100000000
few_in ledger count k small e =
    let p = and_parts (leb count (length ledger)) (sound_list k (take count ledger)) e in
    omega (arith, few k (take count ledger) p.1)

pub fits_in : (h : Heading) (ledger : List Note) (count k number : ℕ) (buffer : List ℕ) → k < 256 → number < 256 → sound_notes ledger count k ≡ true
    → statement_room count ≤ length buffer → is_some (length_if_fits (statement_text h (take count ledger) number) buffer) ≡ true
fits_in h ledger count k number buffer small small' e room =
    let p = and_parts (leb count (length ledger)) (sound_list k (take count ledger)) e in
    let text = statement_text h (take count ledger) number in
    let within = leb-true count (length ledger) p.0 in
    let long : length (take count ledger) ≡ count = rw (length-take count ledger) (omega arith) in
    let fit : length text ≤ length buffer = omega (arith, long, text_room h k number (take count ledger) small small' p.1) in
    ap is_some (cond-true (leb (length text) (length buffer)) (Some (length text)) None (le-leb (length text) (length buffer) fit))
