-- How the calls below a day went.
use Rattle.std.proofs.Common.{◌≡◌, ℕ, ◌+◌, ◌≤◌, Bool, true, false, cond, ltb, leb, List, ◌++◌, length, drop, IfOk, Some, None, Ok, Err, Option, Result, refl, arith, MatchResult}
use Rattle.std.proofs.lemmas.Bool.{and_parts, leb-true}
use Rattle.std.specs.Option.{ok_or}
use Rattle.faults.specs.Places.{plain}
use Rattle.faults.specs.declared.fault.Fault.{Fault}
use Rattle.faults.specs.declared.refusal.Refusal.{Refusal}
use Rattle.faults.specs.declared.refusal.Refusal.TheVariants.{BufferTooShort, LedgerFull, OutOfRange}
use Rattle.dayfile.specs.Records.{Records}
use Rattle.dayfile.specs.declared.heading.Heading.{Heading}
use Rattle.book.specs.Books.{answer, unless}
use Rattle.book.specs.Soundness.{records_of_day, sound_records}
use Rattle.book.proofs.Keeps.{day_tells}
use Rattle.correcting.specs.Readings.{correction, correction_refusal, reading_place}
use Rattle.correcting.specs.declared.reading.Reading.{Reading}
use Rattle.ledger.specs.Issues.{issue_answer, issue_leaves}
use Rattle.ledger.specs.Notes.{sound_notes, within_limit}
use Rattle.ledger.specs.declared.note.Note.{Note}
use Rattle.settlement.specs.Days.{outcome}
use Rattle.statement.specs.Statements.{statement_answer, statement_leaves, statement_text}
use Rattle.text.specs.Written.{written}
use Rattle.day.specs.Memory.{Memory, sound_memory}
use Rattle.day.specs.declared.state.Numbers.{Numbers}

-- the parts of what the test of memory says
pub record Sound (numbers : Numbers) (issues : ℕ) (m : Memory) : Type 0 where
  pub records : sound_records m.records ≡ true
  pub limited : within_limit m.table ≡ true
  pub notes : sound_notes m.ledger numbers.notes issues ≡ true

pub is_sound : (numbers : Numbers) (issues : ℕ) (m : Memory) → sound_memory numbers issues m ≡ true → Sound numbers issues m
is_sound numbers issues m s =
    let whole = and_parts (records_of_day numbers.heading numbers.counts m.records) _ s in
    let rest = and_parts (within_limit m.table) _ whole.1 in
    record {
      records = (day_tells numbers.heading numbers.counts m.records whole.0).2;
      limited = rest.0;
      notes = rest.1;
    }

-- a correction gives back the reading that it was given
pub reread_is : (r : Records) (reading : Reading) → Ok tt ≡ answer (correction r reading) → Ok reading ≡ correction r reading
reread_is r reading e = go (correction_refusal r reading) refl e
  where
    go : (o : Option Refusal) → correction_refusal r reading ≡ o → Ok tt ≡ answer (unless o (reading_place reading) reading) → Ok reading ≡ correction r reading
    go None p e = rw p refl
    go (Some f) p e = let z : ◌≡◌ {A = ℕ} 0 1 = cc in absurd (omega arith)

-- why a call is refused, from its answer
pub refused_is : {X : Type 0} (o : Result X Fault) (f : Fault) → Err f ≡ answer o → Err f ≡ o
refused_is (Ok x) f e = let z : ◌≡◌ {A = ℕ} 0 1 = cc in absurd (omega arith)
refused_is (Err g) f e = cc

-- what is against a call, from its outcome
pub outcome_tells : (o : Option Fault) (r : Result (Unit {0}) Fault) → r ≡ outcome o → MatchResult r (λ _. o ≡ None) (λ fault. o ≡ Some fault)
outcome_tells None (Ok x) e = refl
outcome_tells None (Err f) e = let z : ◌≡◌ {A = ℕ} 0 1 = cc in absurd (omega arith)
outcome_tells (Some g) (Ok x) e = let z : ◌≡◌ {A = ℕ} 0 1 = cc in absurd (omega arith)
outcome_tells (Some g) (Err f) e = cc

-- an issue answers how many notes it added, or leaves the ledger
issue_by : (b : Bool) (count : ℕ) (led new left : List Note) (r : Result ℕ Fault) → leb (count + length new) (length led) ≡ b → r ≡ cond b (Ok (length new)) (Err (plain LedgerFull))
    → left ≡ cond b (written led count new) led → MatchResult r (λ k. k ≡ length new) (λ _. left ≡ led) × IfOk r (λ k. count + k ≤ length led)
issue_by true count led new left (Ok k) p e l =
    let is : k ≡ length new = cc in
    let fits = leb-true (count + length new) (length led) p in
    (is, omega arith)
issue_by true count led new left (Err f) p e l = let z : ◌≡◌ {A = ℕ} 0 1 = cc in absurd (omega arith)
issue_by false count led new left (Ok k) p e l = let z : ◌≡◌ {A = ℕ} 0 1 = cc in absurd (omega arith)
issue_by false count led new left (Err f) p e l = (l, tt)

pub issue_ends : (count : ℕ) (led new left : List Note) (r : Result ℕ Fault) → r ≡ issue_answer led count new → left ≡ issue_leaves led count new
    → MatchResult r (λ k. k ≡ length new) (λ _. left ≡ led) × IfOk r (λ k. count + k ≤ length led)
issue_ends count led new left r e l = issue_by (leb (count + length new) (length led)) count led new left r refl e l

-- a statement answers how long its text is, or leaves the buffer
statement_by : (issued fits : Bool) (text buffer left : List ℕ) (r : Result ℕ Fault) → r ≡ cond issued (ok_or (cond fits (Some (length text)) None) (plain BufferTooShort)) (Err (plain OutOfRange))
    → left ≡ cond issued (cond fits (text ++ drop (length text) buffer) buffer) buffer → MatchResult r (λ k. k ≡ length text) (λ _. left ≡ buffer)
statement_by true true text buffer left (Ok k) e l = cc
statement_by true true text buffer left (Err f) e l = let z : ◌≡◌ {A = ℕ} 0 1 = cc in absurd (omega arith)
statement_by true false text buffer left (Ok k) e l = let z : ◌≡◌ {A = ℕ} 0 1 = cc in absurd (omega arith)
statement_by true false text buffer left (Err f) e l = l
statement_by false fits text buffer left (Ok k) e l = let z : ◌≡◌ {A = ℕ} 0 1 = cc in absurd (omega arith)
statement_by false fits text buffer left (Err f) e l = l

pub statement_ends : (heading : Heading) (notes : List Note) (issues number : ℕ) (buffer left : List ℕ) (r : Result ℕ Fault) → r ≡ statement_answer heading notes issues number buffer
    → left ≡ statement_leaves heading notes issues number buffer → MatchResult r (λ k. k ≡ length (statement_text heading notes number)) (λ _. left ≡ buffer)
statement_ends heading notes issues number buffer left r e l =
    statement_by (ltb number issues) (leb (length (statement_text heading notes number)) (length buffer)) (statement_text heading notes number) buffer left r e l
