-- Only the test of memory refuses for unsound memory.
use Rattle.std.proofs.Common.{◌≡◌, ℕ, ◌+◌, Bool, true, false, cond, not, eqb, ltb, leb, List, length, is_some, Some, None, Ok, Err, Option, Result, sym, refl, ap, ◌∙◌, arith}
use Rattle.std.specs.Option.{ok_or}
use Rattle.faults.specs.Numbers.{refusal_number}
use Rattle.faults.specs.Places.{plain}
use Rattle.faults.specs.declared.fault.Fault.{Fault}
use Rattle.faults.specs.declared.fault.Place.{Place}
use Rattle.faults.specs.declared.refusal.Refusal.{Refusal}
use Rattle.faults.specs.declared.refusal.Refusal.TheVariants.{BufferTooShort, LedgerFull, UnsoundMemory, WrongCount}
use Rattle.decoding.specs.Decoded.{and_then, count_under, decoded_end, decoded_record, of_length, position_or_fault, record_under, whole_mark}
use Rattle.decoding.specs.Fields.{byte, position_in}
use Rattle.dayfile.specs.Marks.{mark_length, mark_of}
use Rattle.dayfile.specs.Records.{Records}
use Rattle.dayfile.specs.declared.heading.Heading.{Heading}
use Rattle.dayfile.specs.declared.mark.Mark.{Mark}
use Rattle.dayfile.specs.declared.mark.Mark.TheVariants as mark
use Rattle.dayfile.specs.declared.record.Record.{Record}
use Rattle.dayfile.specs.declared.record.Record.TheVariants as kind
use Rattle.rows.specs.Tables.{Terms, first_place, row_refusal}
use Rattle.rows.specs.Kinds.{failure_terms, fine_terms, interconnection_terms, position_terms, price_terms, reserve_terms}
use Rattle.book.specs.Books.{admission, admitted, record_count, record_refusal, unless}
use Rattle.closing.specs.Prices.{closing, ended, first_unpriced, priced_or_fault}
use Rattle.correcting.specs.Readings.{correction, correction_refusal, first_reason, read_position, reading_in_range, reading_listed, reading_refusal}
use Rattle.correcting.specs.declared.reading.Reading.{Reading}
use Rattle.amounts.specs.Amounts.{Scope, first_lacking, lacking}
use Rattle.ledger.specs.Issues.{issue_answer}
use Rattle.ledger.specs.declared.note.Note.{Note}
use Rattle.settlement.specs.Days.{lacking_fault, no_purchases, or_unpriced, settle_refusal, sheet_refusal}
use Rattle.statement.specs.Statements.{statement_answer, statement_text}
use Rattle.text.specs.Written.{length_if_fits}
use Rattle.day.specs.Calls.{fault_in}

-- another reason, in an answer or in what is against a call

abbrev another : Refusal → Bool
another reason = not (eqb (refusal_number reason) 1)

abbrev no_such : Option Refusal → Bool
no_such None = true
no_such (Some reason) = another reason

abbrev pub not_unsound : Option Fault → Bool
not_unsound None = true
not_unsound (Some f) = another f.refusal

abbrev fine : {X : Type 0} → Result X Fault → Bool
fine (Ok x) = true
fine (Err f) = another f.refusal

pub another_reason : (o : Option Fault) (f : Fault) → not_unsound o ≡ true → o ≡ Some f → f.refusal ≡ UnsoundMemory → ⊥
another_reason o f h p e =
    let clash : ◌≡◌ {A = Bool} false true = sym (ap another e) ∙ ap not_unsound (sym p) ∙ h in
    let z : ◌≡◌ {A = ℕ} 0 1 = cc in
    omega arith

either_way : {X : Type 0} (test : X → Bool) (b : Bool) (x y : X) → test x ≡ true → test y ≡ true → test (cond b x y) ≡ true
either_way test true x y h k = h
either_way test false x y h k = k

fault_fine : {X : Type 0} (o : Result X Fault) → fine o ≡ true → not_unsound (fault_in o) ≡ true
fault_fine (Ok x) h = refl
fault_fine (Err f) h = h

then_fine : {X Y : Type 0} (o : Result X Fault) (next : X → Result Y Fault) → fine o ≡ true → ((x : X) → fine (next x) ≡ true) → fine (and_then o next) ≡ true
then_fine (Ok x) next h k = k x
then_fine (Err f) next h k = h

or_fine : {X : Type 0} (o : Option X) (f : Fault) → another f.refusal ≡ true → fine (ok_or o f) ≡ true
or_fine (Some x) f h = refl
or_fine None f h = h

unless_fine : {X : Type 0} (o : Option Refusal) (place : Place) (x : X) → no_such o ≡ true → fine (unless o place x) ≡ true
unless_fine None place x h = refl
unless_fine (Some reason) place x h = h

-- records

mark_fine : (n : ℕ) (o : Option Mark) → fine (of_length n o) ≡ true
mark_fine n None = refl
mark_fine n (Some m) = either_way fine (eqb n (mark_length m)) _ _ refl refl

whole_fine : (bytes : List ℕ) → fine (whole_mark bytes) ≡ true
whole_fine bytes = either_way fine (ltb (length bytes) 2) _ _ refl (mark_fine (length bytes) (mark_of (byte bytes 0) (byte bytes 1)))

record_fine : (m : Mark) (bytes : List ℕ) → fine (record_under m bytes) ≡ true
record_fine mark.Day bytes = refl
record_fine mark.Price bytes = refl
record_fine mark.Position bytes = then_fine (position_or_fault bytes) _ (or_fine (position_in bytes) _ refl) (λ x. refl)
record_fine mark.Interconnection bytes = refl
record_fine mark.Reserve bytes = refl
record_fine mark.Failure bytes = refl
record_fine mark.Fine bytes = refl
record_fine mark.End bytes = refl

count_fine : (m : Mark) (bytes : List ℕ) → fine (count_under m bytes) ≡ true
count_fine mark.Day bytes = refl
count_fine mark.Price bytes = refl
count_fine mark.Position bytes = refl
count_fine mark.Interconnection bytes = refl
count_fine mark.Reserve bytes = refl
count_fine mark.Failure bytes = refl
count_fine mark.Fine bytes = refl
count_fine mark.End bytes = refl

row_fine : {X : Type 0} (terms : Terms X) (heading : Heading) (xs : List X) (x : X) → no_such (row_refusal terms heading xs x) ≡ true
row_fine terms heading xs x =
    either_way no_such (not (terms.in_range x)) _ _ refl
    (either_way no_such (not (terms.listed heading x)) _ _ refl
    (either_way no_such (is_some (first_place (terms.alike x) xs)) _ _ refl
    (either_way no_such (leb terms.room (length xs)) _ _ refl refl)))

refusal_fine : (r : Records) (x : Record) → no_such (record_refusal r x) ≡ true
refusal_fine r (kind.Price p) = row_fine price_terms r.heading r.prices p
refusal_fine r (kind.Position p) = row_fine position_terms r.heading r.positions p
refusal_fine r (kind.Interconnection p) = row_fine interconnection_terms r.heading r.interconnections p
refusal_fine r (kind.Reserve p) = row_fine reserve_terms r.heading r.reserves p
refusal_fine r (kind.Failure p) = row_fine failure_terms r.heading r.failures p
refusal_fine r (kind.Fine p) = row_fine fine_terms r.heading r.fines p

pub enter_fine : (r : Records) (bytes : List ℕ) → not_unsound (fault_in (admitted r bytes)) ≡ true
enter_fine r bytes =
    fault_fine (admitted r bytes)
    (then_fine (decoded_record bytes) (admission r) (then_fine (whole_mark bytes) _ (whole_fine bytes) (λ m. record_fine m bytes)) (λ x. unless_fine (record_refusal r x) _ x (refusal_fine r x)))

priced_fine : (o : Option Place) → fine (priced_or_fault o) ≡ true
priced_fine None = refl
priced_fine (Some place) = refl

pub close_fine : (r : Records) (bytes : List ℕ) → not_unsound (fault_in (closing r bytes)) ≡ true
close_fine r bytes =
    fault_fine (closing r bytes)
    (then_fine (decoded_end bytes) (ended r) (then_fine (whole_mark bytes) _ (whole_fine bytes) (λ m. count_fine m bytes))
    (λ count. either_way fine (eqb count (1 + record_count r)) (priced_or_fault (first_unpriced r)) (Err (plain WrongCount)) (priced_fine (first_unpriced r)) refl))

first_fine : (o p : Option Refusal) → no_such o ≡ true → no_such p ≡ true → no_such (first_reason o p) ≡ true
first_fine None p h k = k
first_fine (Some reason) p h k = h

pub correct_fine : (r : Records) (reading : Reading) → not_unsound (fault_in (correction r reading)) ≡ true
correct_fine r reading =
    fault_fine (correction r reading)
    (unless_fine (correction_refusal r reading) _ reading
    (first_fine (reading_refusal r.heading reading) _
    (either_way no_such (not (reading_in_range reading)) _ _ refl (either_way no_such (not (reading_listed r.heading reading)) _ _ refl refl))
    (either_way no_such (is_some (read_position r.positions reading)) _ _ refl refl)))

-- settlements

unpriced_fine : (r : Records) (o : Option Fault) → not_unsound o ≡ true → not_unsound (or_unpriced r o) ≡ true
unpriced_fine r o h = go (first_unpriced r) refl
  where
    go : (p : Option Place) → first_unpriced r ≡ p → not_unsound (or_unpriced r o) ≡ true
    go None e = rw e h
    go (Some place) e = rw e refl

lacking_fine : (o : Option Scope) → not_unsound (lacking_fault o) ≡ true
lacking_fine None = refl
lacking_fine (Some scope) = refl

pub settle_fine : (r : Records) → not_unsound (settle_refusal r) ≡ true
settle_fine r = unpriced_fine r (lacking_fault (first_lacking r)) (lacking_fine (first_lacking r))

pub sheet_fine : (r : Records) (hour : ℕ) → not_unsound (sheet_refusal r hour) ≡ true
sheet_fine r hour =
    either_way not_unsound (eqb hour 0) _ _ refl
    (either_way not_unsound (ltb r.heading.hours hour) _ _ refl
    (unpriced_fine r (cond (lacking r hour) (Some (no_purchases hour)) None) (either_way not_unsound (lacking r hour) _ _ refl refl)))

-- issues

pub issue_fine : (led : List Note) (count : ℕ) (new : List Note) → not_unsound (fault_in (issue_answer led count new)) ≡ true
issue_fine led count new = fault_fine (issue_answer led count new) (either_way fine (leb (count + length new) (length led)) (Ok (length new)) (Err (plain LedgerFull)) refl refl)

pub statement_fine : (heading : Heading) (notes : List Note) (issues number : ℕ) (buffer : List ℕ) → not_unsound (fault_in (statement_answer heading notes issues number buffer)) ≡ true
statement_fine heading notes issues number buffer = fault_fine (statement_answer heading notes issues number buffer) (either_way fine (ltb number issues) _ _ (or_fine (length_if_fits (statement_text heading notes number) buffer) (plain BufferTooShort) refl) refl)
