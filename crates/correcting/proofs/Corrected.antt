-- A correction keeps a book sound.
use Rattle.std.proofs.Common.{◌≡◌, ℕ, Bool, true, false, cond, not, leb, List, length, get_or, is_some, Some, None, Option, refl, ap}
use Rattle.std.proofs.lemmas.List.{length-set}
use Rattle.std.proofs.lemmas.Bool.{and_parts, and_from}
use Rattle.faults.specs.declared.refusal.Refusal.{Refusal}
use Rattle.faults.specs.declared.refusal.Refusal.TheVariants.{OutOfRange, AboveHeading}
use Rattle.dayfile.specs.Classes.{class_of}
use Rattle.dayfile.specs.declared.heading.Heading.{Heading}
use Rattle.dayfile.specs.declared.record.Position.{Position}
use Rattle.rows.specs.Kinds.{energy_in_range, price_terms, position_terms}
use Rattle.rows.specs.Tables.{sound_table}
use Rattle.rows.proofs.Like.{sound_set}
use Rattle.book.specs.declared.counts.Counts.{Counts}
use Rattle.book.proofs.Keeps.{unless_ok}
use Rattle.correcting.specs.Corrections.{CorrectingKeepsSound}
use Rattle.correcting.specs.Readings.{correction_refusal, first_reason, no_position, read_position, reading_in_range, reading_listed, reading_place, reread, reread_at}
use Rattle.correcting.specs.declared.reading.Reading.{Reading}

-- a reading that may be corrected is in range
ranged_from : (ranged named : Bool) (other : Option Refusal)
    → first_reason (cond (not ranged) (Some OutOfRange) (cond (not named) (Some AboveHeading) None)) other ≡ None → ranged ≡ true
ranged_from true named o e = refl
ranged_from false named o e = cc

energy_from : (reading : Reading) → reading_in_range reading ≡ true → energy_in_range reading.real_time ≡ true
energy_from reading e =
    let p = and_parts (leb 1 reading.account) _ e in
    let q = and_parts (leb 1 reading.node) _ p.1 in
    let r = and_parts (leb 1 reading.hour) _ q.1 in
    (and_parts (is_some (class_of reading.class)) (energy_in_range reading.real_time) r.1).1

reread_ranged : (p : Position) (kwh : ℕ) → energy_in_range kwh ≡ true → position_terms.in_range p ≡ true → position_terms.in_range (reread p kwh) ≡ true
reread_ranged p kwh k e =
    let a = and_parts (leb 1 p.account) _ e in
    let b = and_parts (leb 1 p.node) _ a.1 in
    let c = and_parts (leb 1 p.hour) _ b.1 in
    let d = and_parts (energy_in_range p.day_ahead) (energy_in_range p.real_time) c.1 in
    and_from _ _ a.0 (and_from _ _ b.0 (and_from _ _ c.0 (and_from _ _ d.0 k)))

reread_sound : (h : Heading) (ps : List Position) (o : Option ℕ) (kwh : ℕ) → energy_in_range kwh ≡ true
    → sound_table position_terms h ps ≡ true → sound_table position_terms h (reread_at ps o kwh) ≡ true
reread_sound h ps None kwh k s = s
reread_sound h ps (Some i) kwh k s =
    let p = get_or ps i no_position in
    sound_set position_terms h ps i (reread p kwh) no_position
    (record { seen = λ z. refl; sees = λ z. refl; ranged = reread_ranged p kwh k; named = refl }) s

reread_length : (ps : List Position) (o : Option ℕ) (kwh : ℕ) → length (reread_at ps o kwh) ≡ length ps
reread_length ps None kwh = refl
reread_length ps (Some i) kwh = length-set ps i (reread (get_or ps i no_position) kwh)

abbrev counted : ℕ → ℕ → ℕ → ℕ → ℕ → ℕ → Counts
counted a b c d e f = record { prices = a; positions = b; interconnections = c; reserves = d; failures = e; fines = f }

pub correcting_keeps_sound : CorrectingKeepsSound
correcting_keeps_sound b reading s e =
    let none = unless_ok (correction_refusal b reading) (reading_place reading) reading reading e in
    let kwh = energy_from reading (ranged_from (reading_in_range reading) (reading_listed b.heading reading) _ none) in
    let o = read_position b.positions reading in
    let p = and_parts (sound_table price_terms b.heading b.prices) _ s in
    let q = and_parts (sound_table position_terms b.heading b.positions) _ p.1 in (
      and_from _ _ p.0 (and_from _ _ (reread_sound b.heading b.positions o reading.real_time kwh q.0) q.1),
      ap (λ n. counted (length b.prices) n (length b.interconnections) (length b.reserves) (length b.failures) (length b.fines))
          (reread_length b.positions o reading.real_time),
    )
