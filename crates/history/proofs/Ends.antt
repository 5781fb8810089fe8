-- How the calls end that answer more than a day: what an issue adds, what a statement writes, and whom a reopen refuses.
use Rattle.std.proofs.Common.{◌≡◌, ℕ, ◌+◌, ◌≤◌, Bool, true, false, cond, ltb, leb, List, ◌++◌, length, take, drop, Some, None, Ok, Err, Option, Result, sym, refl, ap, ◌∙◌, arith, length-take}
use Rattle.std.proofs.lemmas.List.{drop_at, take_at}
use Rattle.std.proofs.lemmas.Bool.{le-leb, leb-true}
use Rattle.std.specs.Option.{ok_or}
use Rattle.faults.specs.Places.{plain}
use Rattle.faults.specs.declared.fault.Fault.{Fault}
use Rattle.faults.specs.declared.refusal.Refusal.TheVariants.{BufferTooShort, NoIssueLeft, OutOfRange, UnsoundMemory}
use Rattle.ledger.specs.Issues.{issue_answer, issue_leaves}
use Rattle.ledger.specs.declared.note.Note.{Note}
use Rattle.statement.specs.Statements.{statement_text}
use Rattle.text.specs.Written.{written}
use Rattle.day.specs.Calls.{fault_in, issue_gives, issue_refusal, made_with, notes_in, notes_to_add, reopen_gives, reopened_at, statement_gives, statement_refusal, with_notes}
use Rattle.day.specs.IssueNumbers.{following}
use Rattle.day.specs.Memory.{Memory, memory, sound_memory}
use Rattle.day.specs.States.{Closed, Issued, Settled, day_with}
use Rattle.day.specs.declared.issue_number.IssueNumber.{IssueNumber}
use Rattle.day.specs.declared.refused.Refused.{Refused}
use Rattle.history.specs.Histories.{added_notes}
use Rattle.history.proofs.Keeping.{at_issue}
use Rattle.history.proofs.Outcomes.{nothing_against, ok_not_err, some_not_none, went_well}

-- issue

issue_fits : (led : List Note) (count : ℕ) (new : List Note) → fault_in (issue_answer led count new) ≡ None → count + length new ≤ length led
issue_fits led count new e = go (leb (count + length new) (length led)) refl
  where
    go : (b : Bool) → leb (count + length new) (length led) ≡ b → count + length new ≤ length led
    go true p = leb-true (count + length new) (length led) p
    go false p = some_not_none (rw p at e)

-- as many entries behind the earlier ones as were written
behind : (led : List Note) (count : ℕ) (new : List Note) → count + length new ≤ length led → take (length new) (drop count (issue_leaves led count new)) ≡ new
behind led count new fits = go (leb (count + length new) (length led)) (le-leb (count + length new) (length led) fits)
  where
    go : (b : Bool) → b ≡ true → take (length new) (drop count (cond b (written led count new) led)) ≡ new
    go false p = let z : ◌≡◌ {A = ℕ} 0 1 = cc in absurd (omega arith)
    go true p =
        let long : length (take count led) ≡ count = length-take count led ∙ omega arith in
        ap (take (length new)) (drop_at (take count led) (new ++ drop (count + length new) led) count long) ∙ take_at new (drop (count + length new) led) (length new) refl

pub record IssueEnds (d : Settled) (e : Issued) (count : ℕ) (m n : Memory) : Type 0 where
  pub fits : d.numbers.notes + length (notes_to_add d.numbers m) ≤ length m.ledger
  pub day : e ≡ day_with (with_notes d.numbers (length (notes_to_add d.numbers m)))
  pub memory_is : n ≡ memory m.records m.table (issue_leaves m.ledger d.numbers.notes (notes_to_add d.numbers m))
  pub added : added_notes d.numbers.notes count n ≡ notes_to_add d.numbers m
  pub many : count ≡ length (notes_to_add d.numbers m)

pub issue_ends : (d : Settled) (e : Issued) (count : ℕ) (m n : Memory) → (Ok (e, count), n) ≡ issue_gives d m → IssueEnds d e count m n
issue_ends d e count m n q =
    let new = notes_to_add d.numbers m in
    let went = went_well (issue_refusal d m) d m _ _ _ _ q in
    let fits = issue_fits m.ledger d.numbers.notes new (nothing_against _ _ _ went.0).1 in
    let many : count ≡ length new = ap (λ (z : Issued × ℕ). z.1) went.1 in
    record {
      fits = fits;
      day = ap (λ (z : Issued × ℕ). z.0) went.1;
      memory_is = went.2;
      added = ap (λ (x : Memory). take count (drop d.numbers.notes x.ledger)) went.2
          ∙ ap (λ k. take k (drop d.numbers.notes (issue_leaves m.ledger d.numbers.notes new))) many
          ∙ behind m.ledger d.numbers.notes new fits;
      many = many;
    }

-- statement

-- why it is refused, by how many bytes the buffer has
abbrev pub refusal_in_room : Issued → Memory → ℕ → ℕ → Option Fault
refusal_in_room d m number room =
    cond (sound_memory d.numbers (made_with d.numbers) m)
    (fault_in (cond (ltb number (made_with d.numbers)) (ok_or (cond (leb (length text) room) (Some (length text)) None) (plain BufferTooShort)) (Err (plain OutOfRange))))
    (Some (plain UnsoundMemory))
  where
    text : List ℕ
    text = statement_text d.numbers.heading (notes_in d.numbers m) number

pub record StatementEnds (d e : Issued) (count : ℕ) (m : Memory) (number : ℕ) (buffer filled : List ℕ) : Type 0 where
  pub day : e ≡ d
  pub text : take count filled ≡ statement_text d.numbers.heading (notes_in d.numbers m) number
  pub many : count ≡ length (take count filled)
  pub left : take count filled ++ drop (length (take count filled)) buffer ≡ filled

-- the text is in front where the issue was made and the text fits
in_front : (made fits : Bool) (text buffer : List ℕ) → fault_in (cond made (ok_or (cond fits (Some (length text)) None) (plain BufferTooShort)) (Err (plain OutOfRange))) ≡ None
    → cond made (cond fits (text ++ drop (length text) buffer) buffer) buffer ≡ text ++ drop (length text) buffer
in_front true true text buffer e = refl
in_front true false text buffer e = some_not_none e
in_front false fits text buffer e = some_not_none e

pub statement_ends : (d e : Issued) (count : ℕ) (m : Memory) (number : ℕ) (buffer filled : List ℕ) → (Ok (e, count), filled) ≡ statement_gives d m number buffer → StatementEnds d e count m number buffer filled
statement_ends d e count m number buffer filled q =
    let text = statement_text d.numbers.heading (notes_in d.numbers m) number in
    let went = went_well (statement_refusal d m number buffer) d buffer _ _ _ _ q in
    let long : count ≡ length text = ap (λ (z : Issued × ℕ). z.1) went.1 in
    let is : filled ≡ text ++ drop (length text) buffer = went.2 ∙ in_front (ltb number (made_with d.numbers)) (leb (length text) (length buffer)) text buffer (nothing_against _ _ _ went.0).1 in
    let front : take count filled ≡ text = ap (λ k. take k filled) long ∙ ap (take (length text)) is ∙ take_at text (drop (length text) buffer) (length text) refl in
    record {
      day = ap (λ (z : Issued × ℕ). z.0) went.1;
      text = front;
      many = long ∙ ap length (sym front);
      left = ap (λ x. x ++ drop (length x) buffer) front ∙ sym is;
    }

-- reopen

pub record ReopenEnds (d : Issued) (e : Closed) (m n : Memory) : Type 0 where
  pub issue : IssueNumber
  pub follows : following d.numbers.issue ≡ Some issue
  pub day : e ≡ day_with (at_issue d.numbers issue)
  pub memory_is : n ≡ m

abbrev Reopening : Type 0
Reopening = Result Closed (Refused Issued) × Memory

first : {p q : Reopening} → p ≡ q → p.0 ≡ q.0
first e = ap (λ (z : Reopening). z.0) e

second : {p q : Reopening} → p ≡ q → p.1 ≡ q.1
second e = ap (λ (z : Reopening). z.1) e

pub reopen_ends : (d : Issued) (e : Closed) (m n : Memory) → (Ok e, n) ≡ reopen_gives d m → ReopenEnds d e m n
reopen_ends d e m n q = tested (sound_memory d.numbers (made_with d.numbers) m) q
  where
    next : (o : Option IssueNumber) → following d.numbers.issue ≡ o → (Ok e, n) ≡ reopened_at d m o → ReopenEnds d e m n
    next None p q = ok_not_err (first q)
    next (Some issue) p q =
        let same : ◌≡◌ {A = Result Closed (Refused Issued)} (Ok e) (Ok (day_with (at_issue d.numbers issue))) = first q in
        record { issue = issue; follows = p; day = cc; memory_is = second q }

    tested : (b : Bool) → (Ok e, n) ≡ cond b (reopened_at d m (following d.numbers.issue)) (Err (record { day = d; fault = plain UnsoundMemory }), m) → ReopenEnds d e m n
    tested true q = next (following d.numbers.issue) refl q
    tested false q = ok_not_err (first q)

pub reopen_refused : (d : Issued) (r : Refused Issued) (m n : Memory) → (Err r, n) ≡ reopen_gives d m → (r.day ≡ d) × (n ≡ m)
reopen_refused d r m n q = tested (sound_memory d.numbers (made_with d.numbers) m) q
  where
    given_back : (f : Fault) → ◌≡◌ {A = Reopening} (Err r, n) (Err (record { day = d; fault = f }), m) → (r.day ≡ d) × (n ≡ m)
    given_back f q =
        let same : ◌≡◌ {A = Result Closed (Refused Issued)} (Err r) (Err (record { day = d; fault = f })) = first q in
        let is : r ≡ record { day = d; fault = f } = cc in
        (ap (λ (x : Refused Issued). x.day) is, second q)

    next : (o : Option IssueNumber) → (Err r, n) ≡ reopened_at d m o → (r.day ≡ d) × (n ≡ m)
    next None q = given_back (plain NoIssueLeft) q
    next (Some issue) q = ok_not_err (sym (first q))

    tested : (b : Bool) → (Err r, n) ≡ cond b (reopened_at d m (following d.numbers.issue)) (Err (record { day = d; fault = plain UnsoundMemory }), m) → (r.day ≡ d) × (n ≡ m)
    tested true q = next (following d.numbers.issue) q
    tested false q = given_back (plain UnsoundMemory) q

-- on sound memory a reopen is refused for one reason only
pub reopen_reason : (d : Issued) (r : Refused Issued) (m n : Memory) → sound_memory d.numbers (made_with d.numbers) m ≡ true → (Err r, n) ≡ reopen_gives d m → r.fault ≡ plain NoIssueLeft
reopen_reason d r m n sound q = tested (sound_memory d.numbers (made_with d.numbers) m) sound q
  where
    next : (o : Option IssueNumber) → (Err r, n) ≡ reopened_at d m o → r.fault ≡ plain NoIssueLeft
    next None q =
        let same : ◌≡◌ {A = Result Closed (Refused Issued)} (Err r) (Err (record { day = d; fault = plain NoIssueLeft })) = first q in
        let is : r ≡ record { day = d; fault = plain NoIssueLeft } = cc in
        ap (λ (x : Refused Issued). x.fault) is
    next (Some issue) q = ok_not_err (sym (first q))

    tested : (b : Bool) → b ≡ true → (Err r, n) ≡ cond b (reopened_at d m (following d.numbers.issue)) (Err (record { day = d; fault = plain UnsoundMemory }), m) → r.fault ≡ plain NoIssueLeft
    tested true p q = next (following d.numbers.issue) q
    tested false p q = let z : ◌≡◌ {A = ℕ} 0 1 = cc in absurd (omega arith)
