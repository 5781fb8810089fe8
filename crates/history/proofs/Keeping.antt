-- Each call keeps what a history keeps.
use Rattle.std.proofs.Common.{◌≡◌, ℕ, ◌+◌, ◌/◌, ◌<◌, ◌≤◌, Bool, true, false, leb, List, [], ◌∷◌, ◌++◌, length, get_or, take, pos, ◌-ℤ◌, nat_abs, Some, None, Ok, Option, Result, sym, refl, ap, ◌∙◌, subst, inl, inr, arith, length-append}
use Rattle.std.proofs.lemmas.List.{get_or_append_left, get_or_push, flat_map_more}
use Rattle.std.proofs.lemmas.Int.{ints}
use Rattle.std.proofs.lemmas.Bool.{and_from, cases_lt, le-leb}
use Rattle.std.specs.List.{flat_map}
use Rattle.faults.specs.declared.fault.Fault.{Fault}
use Rattle.faults.specs.declared.refusal.Refusal.{Refusal}
use Rattle.decoding.specs.Decoded.{and_then, decoded_record}
use Rattle.dayfile.specs.Records.{Records}
use Rattle.dayfile.specs.declared.record.Record.{Record}
use Rattle.dayfile.specs.declared.record.Record.TheVariants.{Failure, Fine, Interconnection, Position, Price, Reserve}
use Rattle.book.specs.Books.{admission, admitted, counts_of, record_refusal, with_record}
use Rattle.correcting.specs.Readings.{correction, correction_refusal, with_reading}
use Rattle.book.specs.Soundness.{sound_records}
use Rattle.correcting.specs.declared.reading.Reading.{Reading}
use Rattle.book.proofs.Keeps.{entering_keeps_sound}
use Rattle.correcting.proofs.Corrected.{correcting_keeps_sound}
use Rattle.codes.specs.Cells.{cell, empty_cells}
use Rattle.codes.specs.Sums.{total}
use Rattle.codes.specs.declared.code.Code.{Code}
use Rattle.ledger.specs.Issues.{earlier, issue_leaves, noted}
use Rattle.ledger.specs.Laws.{balance}
use Rattle.ledger.specs.Notes.{amount_limit, cleared, sound_notes, within_limit}
use Rattle.ledger.specs.declared.note.Note.{Note}
use Rattle.ledger.proofs.Counting.{sum-++}
use Rattle.ledger.proofs.Laws.{appended, balanced, borne, halves, kept_sound, reached}
use Rattle.settlement.specs.Days.{day_cell}
use Rattle.settlement_laws.proofs.Balance.{cells_are_small}
use Rattle.day.specs.Calls.{Parts, first_numbers, notes_to_add, with_counts, with_notes}
use Rattle.day.specs.IssueNumbers.{following, issue_number}
use Rattle.day.specs.Memory.{Memory, begun_with, memory}
use Rattle.day.specs.States as day_state
use Rattle.day.specs.States.{day_with}
use Rattle.day.specs.Tables.{table_of}
use Rattle.day.specs.declared.issue_number.IssueNumber.{IssueNumber}
use Rattle.day.specs.declared.issue_number.IssueNumber.TheVariants.{FinalResettlement, Initial, InitialResettlement, IntermediateResettlement}
use Rattle.day.specs.declared.state.Numbers.{Numbers}
use Rattle.history.specs.Events.{Event, Settlement, Summary, all_notes, begun, none_yet, settled_by, summed}
use Rattle.history.specs.Events as event
use Rattle.history.specs.Laws.{Bear, NotesStandAndBalance, Reach, WasMade}
use Rattle.history.specs.States.{has_table, is_issued, issues_made, numbers_of}
use Rattle.history.specs.declared.states.Day.{Day}
use Rattle.history.specs.declared.states.Day.TheVariants.{Closed, Issued, Open, Settled}
use Rattle.history.proofs.Kept.{Accepted, Kept, MadeOf, day_even, day_holds, day_small, day_within, empty_within, sheets_defined}
use Rattle.history.proofs.Outcomes.{ok_not_err, some_not_none}

false_not_true : {X : Type 0} → ◌≡◌ {A = Bool} false true → X
false_not_true e = let z : ◌≡◌ {A = ℕ} 0 1 = cc in absurd (omega arith)

-- beginnings

begun_kept : (r : Records) (led : List Note) (day : Day) → sound_records r ≡ true → numbers_of day ≡ first_numbers r → issues_made day ≡ 0 → has_table day ≡ false → is_issued day ≡ false
    → Kept (begun r) day (begun_with r led)
begun_kept r led day sound numbers none untabled unissued =
    let no_notes : (numbers_of day).notes ≡ 0 = ap (λ (n : Numbers). n.notes) numbers in
    record {
      laws = record {
        records_stand = refl;
        notes_stand_and_balance = record {
          many = no_notes;
          stand = ap (λ n. take n (cleared led)) no_notes;
          counted = none;
          bear = λ number below. absurd (omega arith);
          balanced = λ number below. absurd (omega arith);
        };
        sheets_are_as_defined = λ tabled. false_not_true (sym untabled ∙ tabled);
        notes_reach_the_cell = record { reach = refl; one_made = λ is. false_not_true (sym unissued ∙ is) };
      };
      sound = sound;
      heading = ap (λ (n : Numbers). n.heading) numbers;
      counts = ap (λ (n : Numbers). n.counts) numbers;
      limited = empty_within (record { cells = empty_cells }) refl;
      notes = ap (λ n. sound_notes (cleared led) n (issues_made day)) no_notes ∙ and_from (leb 0 (length (cleared led))) true (le-leb 0 (length (cleared led)) (omega arith)) refl;
      balanced = refl;
      settlement = tt;
      last_issue = tt;
      table = λ tabled. false_not_true (sym untabled ∙ tabled);
    }

pub open_kept : (r : Records) (led : List Note) → sound_records r ≡ true → Kept (begun r) (Open (day_with (first_numbers r))) (begun_with r led)
open_kept r led sound = begun_kept r led (Open (day_with (first_numbers r))) sound refl refl refl refl

pub load_kept : (r : Records) (led : List Note) → sound_records r ≡ true → Kept (begun r) (Closed (day_with (first_numbers r))) (begun_with r led)
load_kept r led sound = begun_kept r led (Closed (day_with (first_numbers r))) sound refl refl refl refl

-- what a call leaves alone that gives an open or a closed day, and issues nothing
pub record Carried (s : Summary) (d : Day) (m : Memory) (s' : Summary) (d' : Day) (m' : Memory) : Type 0 where
  pub settlement : s'.settlement ≡ s.settlement
  pub last_issue : s'.last_issue ≡ s.last_issue
  pub issues : s'.issues ≡ s.issues
  pub table : m'.table ≡ m.table
  pub ledger : m'.ledger ≡ m.ledger
  pub notes : (numbers_of d').notes ≡ (numbers_of d).notes
  pub made : issues_made d' ≡ issues_made d
  pub untabled : has_table d' ≡ false
  pub unissued : is_issued d' ≡ false

carried : {s s' : Summary} {d d' : Day} {m m' : Memory} → Kept s d m → Carried s d m s' d' m' → m'.records ≡ s'.records → sound_records m'.records ≡ true
    → (numbers_of d').heading ≡ m'.records.heading → (numbers_of d').counts ≡ counts_of m'.records → Kept s' d' m'
carried {s} {s'} {d} {d'} {m} {m'} k c stands sound heading counts =
    let stood = k.laws.notes_stand_and_balance in
    let joint = ap (flat_map (λ (notes : List Note). notes)) c.issues in
    let every : (P : List (List Note) → Type 0) → P s.issues → P s'.issues = λ P p. subst P (sym c.issues) p in
    record {
      laws = record {
        records_stand = stands;
        notes_stand_and_balance = record {
          many = c.notes ∙ stood.many ∙ ap length (sym joint);
          stand = ap (λ n. take n m'.ledger) c.notes ∙ ap (take (numbers_of d).notes) c.ledger ∙ stood.stand ∙ sym joint;
          counted = c.made ∙ stood.counted ∙ ap length (sym c.issues);
          bear = every (λ is. (number : ℕ) → number < length is → Bear number (get_or is number [])) stood.bear;
          balanced = every (λ is. (number : ℕ) → number < length is → balance (get_or is number []) ≡ pos 0) stood.balanced;
        };
        sheets_are_as_defined = λ tabled. false_not_true (sym c.untabled ∙ tabled);
        notes_reach_the_cell = record {
          reach = subst (λ o. Reach o (all_notes s')) (sym c.last_issue) (subst (Reach s.last_issue) (sym joint) k.laws.notes_reach_the_cell.reach);
          one_made = λ is. false_not_true (sym c.unissued ∙ is);
        };
      };
      sound = sound;
      heading = heading;
      counts = counts;
      limited = ap within_limit c.table ∙ k.limited;
      notes = ap (λ l. sound_notes l (numbers_of d').notes (issues_made d')) c.ledger ∙ ap (λ n. sound_notes m.ledger n (issues_made d')) c.notes
          ∙ ap (sound_notes m.ledger (numbers_of d).notes) c.made ∙ k.notes;
      balanced = ap balance joint ∙ k.balanced;
      settlement = subst MadeOf (sym c.settlement) k.settlement;
      last_issue = subst MadeOf (sym c.last_issue) k.last_issue;
      table = λ tabled. false_not_true (sym c.untabled ∙ tabled);
    }

-- enter

heading_same : (r : Records) (item : Record) → (with_record r item).heading ≡ r.heading
heading_same r (Price x) = refl
heading_same r (Position x) = refl
heading_same r (Interconnection x) = refl
heading_same r (Reserve x) = refl
heading_same r (Failure x) = refl
heading_same r (Fine x) = refl

admitted_is : (r : Records) (bytes : List ℕ) (x item : Record) → admitted r bytes ≡ Ok x → decoded_record bytes ≡ Ok item → x ≡ item
admitted_is r bytes x item e d = go (record_refusal r item) refl (ap (λ o. and_then o (admission r)) (sym d) ∙ e)
  where
    go : (o : Option Refusal) → record_refusal r item ≡ o → admission r item ≡ Ok x → x ≡ item
    go None p q = let s : ◌≡◌ {A = Result Record Fault} (Ok item) (Ok x) = rw p at q in cc
    go (Some f) p q = ok_not_err (sym (rw p at q))

pub enter_kept : {s : Summary} (d : day_state.Open) (m : Memory) (bytes : List ℕ) (item : Record) → admitted m.records bytes ≡ Ok item → Kept s (Open d) m
    → Kept (summed (event.entered bytes item) s) (Open (day_with (with_counts d.numbers (with_record m.records item)))) (memory (with_record m.records item) m.table m.ledger)
enter_kept {s} d m bytes item ok k =
    carried k (record { settlement = refl; last_issue = refl; issues = refl; table = refl; ledger = refl; notes = refl; made = refl; untabled = refl; unissued = refl })
    (ap (λ r. with_record r item) k.laws.records_stand)
    (entering_keeps_sound m.records bytes item k.sound ok).0
    (k.heading ∙ sym (heading_same m.records item))
    refl

pub entered_item : (r : Records) (bytes : List ℕ) (x item : Record) → admitted r bytes ≡ Ok x → decoded_record bytes ≡ Ok item → admitted r bytes ≡ Ok item
entered_item r bytes x item e d = e ∙ ap Ok (admitted_is r bytes x item e d)

-- close

pub close_kept : {s : Summary} (d : day_state.Open) (m : Memory) → Kept s (Open d) m → Kept s (Closed (day_with d.numbers)) m
close_kept {s} d m k =
    carried k (record { settlement = refl; last_issue = refl; issues = refl; table = refl; ledger = refl; notes = refl; made = refl; untabled = refl; unissued = refl })
    k.laws.records_stand k.sound k.heading k.counts

-- correct

pub corrected_reading : (r : Records) (reading x : Reading) → correction r reading ≡ Ok x → correction r reading ≡ Ok reading
corrected_reading r reading x e = go (correction_refusal r reading) refl
  where
    go : (o : Option Refusal) → correction_refusal r reading ≡ o → correction r reading ≡ Ok reading
    go None p = rw p refl
    go (Some f) p = ok_not_err (sym (rw p at e))

pub correct_kept : {s : Summary} (d : day_state.Closed) (m : Memory) (reading : Reading) → correction m.records reading ≡ Ok reading → Kept s (Closed d) m
    → Kept (summed (event.corrected reading) s) (Closed d) (memory (with_reading m.records reading) m.table m.ledger)
correct_kept {s} d m reading ok k =
    let keeps = correcting_keeps_sound m.records reading k.sound ok in
    carried k (record { settlement = refl; last_issue = refl; issues = refl; table = refl; ledger = refl; notes = refl; made = refl; untabled = refl; unissued = refl })
    (ap (λ r. with_reading r reading) k.laws.records_stand) keeps.0 k.heading (k.counts ∙ sym keeps.1)

-- settle

pub settle_kept : {s : Summary} (d : day_state.Closed) (m : Memory) (parts : Parts) → Accepted parts m.records → Kept s (Closed d) m
    → Kept (summed (event.settled parts) s) (Settled (day_with d.numbers)) (memory m.records (table_of (day_cell parts m.records)) m.ledger)
settle_kept {s} d m parts a k =
    let same = k.laws.records_stand in
    let stood = k.laws.notes_stand_and_balance in
    record {
      laws = record {
        records_stand = same;
        notes_stand_and_balance = record { many = stood.many; stand = stood.stand; counted = stood.counted; bear = stood.bear; balanced = stood.balanced };
        sheets_are_as_defined = sheets_defined (summed (event.settled parts) s) (Settled (day_with d.numbers)) (memory m.records (table_of (day_cell parts m.records)) m.ledger) same k.sound;
        notes_reach_the_cell = record { reach = k.laws.notes_reach_the_cell.reach; one_made = λ is. false_not_true is };
      };
      sound = k.sound;
      heading = k.heading;
      counts = k.counts;
      limited = day_within parts m.records a;
      notes = k.notes;
      balanced = k.balanced;
      settlement = subst (λ r. Accepted parts r) same a;
      last_issue = k.last_issue;
      table = λ tabled. ap (λ r. table_of (day_cell parts r)) same;
    }

-- reopen

following_number : (i j : IssueNumber) → following i ≡ Some j → issue_number j ≡ issue_number i + 1
following_number Initial j e = let s : j ≡ InitialResettlement = cc in ap issue_number s
following_number InitialResettlement j e = let s : j ≡ IntermediateResettlement = cc in ap issue_number s
following_number IntermediateResettlement j e = let s : j ≡ FinalResettlement = cc in ap issue_number s
following_number FinalResettlement j e = some_not_none (sym e)

abbrev pub at_issue : Numbers → IssueNumber → Numbers
at_issue numbers issue = record { heading = numbers.heading; counts = numbers.counts; notes = numbers.notes; issue = issue }

pub reopen_kept : {s : Summary} (d : day_state.Issued) (m : Memory) (issue : IssueNumber) → following d.numbers.issue ≡ Some issue → Kept s (Issued d) m
    → Kept s (Closed (day_with (at_issue d.numbers issue))) m
reopen_kept {s} d m issue follows k =
    carried k (record { settlement = refl; last_issue = refl; issues = refl; table = refl; ledger = refl; notes = refl; made = following_number d.numbers.issue issue follows; untabled = refl; unissued = refl })
    k.laws.records_stand k.sound k.heading k.counts

-- issue

all_more : (issues : List (List Note)) (new : List Note) → flat_map (λ (notes : List Note). notes) (issues ++ (new ∷ [])) ≡ flat_map (λ (notes : List Note). notes) issues ++ new
all_more issues new = sym (flat_map_more (λ (notes : List Note). notes) [] issues new)

-- what holds of each issue so far, and of the new one, holds of each
each_more : (P : ℕ → List Note → Type 0) (issues : List (List Note)) (new : List Note) → ((i : ℕ) → i < length issues → P i (get_or issues i [])) → P (length issues) new
    → (i : ℕ) → i < length (issues ++ (new ∷ [])) → P i (get_or (issues ++ (new ∷ [])) i [])
each_more P issues new before here i below =
    let long = length-append issues (new ∷ []) in
    elim (cases_lt i (length issues)) [
      | inl lt ↦ subst (P i) (sym (get_or_append_left issues (new ∷ []) [] i lt)) (before i lt)
      | inr ge ↦
          let is : length issues ≡ i = omega arith in
          subst (P i) (sym (get_or_push issues new [] i is)) (subst (λ j. P j new) is here)
    ]

-- what the earlier notes of a code and a party add up to is small
earlier_small : (o : Settlement) (notes : List Note) → MadeOf o → Reach o notes → (code : Code) (party : ℕ) → nat_abs (noted notes code party) ≤ amount_limit / 2
earlier_small none_yet notes made reach code party = rw reach (omega arith)
earlier_small (settled_by parts r) notes a reach code party = omega (arith, ap nat_abs (reach code party), cells_are_small parts a.fair r a.sound a.borne code party)

module _ {s : Summary} (d : day_state.Settled) (m : Memory) (parts : Parts) (r : Records) (a : Accepted parts r) (by : s.settlement ≡ settled_by parts r) (fills : m.table ≡ table_of (day_cell parts r)) (k : Kept s (Settled d) m)
    (fits : d.numbers.notes + length (notes_to_add d.numbers m) ≤ length m.ledger) where
  abbrev count : ℕ
  count = d.numbers.notes

  abbrev made : ℕ
  made = issue_number d.numbers.issue

  abbrev new : List Note
  new = notes_to_add d.numbers m

  abbrev after : Summary
  after = summed (event.issued new) s

  abbrev left : Memory
  left = memory m.records m.table (issue_leaves m.ledger count new)

  abbrev issued_day : Day
  issued_day = Issued (day_with (with_notes d.numbers (length new)))

  stood : NotesStandAndBalance s (Settled d) m
  stood = k.laws.notes_stand_and_balance

  cells : (code : Code) (party : ℕ) → cell m.table code party ≡ day_cell parts r code party
  cells code party = ap (λ t. cell t code party) fills ∙ day_holds parts r a code party

  reaches : (code : Code) (party : ℕ) → noted (all_notes after) code party ≡ day_cell parts r code party
  reaches code party =
      ap (λ ns. noted ns code party) (all_more s.issues new) ∙ ap (λ ns. noted (ns ++ new) code party) (sym stood.stand)
      ∙ reached m.ledger count made m.table k.notes code party ∙ cells code party

  even : balance new ≡ pos 0
  even =
      balanced m.ledger count made m.table k.notes (ap (λ t. total (cell t)) fills ∙ day_even parts r a)
      (ap balance stood.stand ∙ k.balanced)

  all_even : balance (all_notes after) ≡ pos 0
  all_even =
      let whole = ap balance (all_more s.issues new) ∙ sum-++ (λ (n : Note). n.amount) (all_notes s) new in
      let old = k.balanced in
      let here = even in
      whole ∙ omega (arith, ints, old, here)

  near : (code : Code) (party : ℕ) → nat_abs (cell m.table code party -ℤ earlier m.ledger count code party) ≤ amount_limit
  near =
      halves m.ledger count m.table
      (λ code party. omega (arith, ap (λ t. nat_abs (cell t code party)) fills, day_small parts r a code party))
      (λ code party. omega (arith, ap (λ ns. nat_abs (noted ns code party)) stood.stand, earlier_small s.last_issue (all_notes s) k.last_issue k.laws.notes_reach_the_cell.reach code party))

  pub issue_kept : Kept after issued_day left
  issue_kept = record {
    laws = record {
      records_stand = k.laws.records_stand;
      notes_stand_and_balance = record {
        many = omega (arith, stood.many, ap length (all_more s.issues new), length-append (all_notes s) new);
        stand = appended m.ledger new count fits ∙ ap (λ ns. ns ++ new) stood.stand ∙ sym (all_more s.issues new);
        counted = omega (arith, stood.counted, length-append s.issues (new ∷ []));
        bear = each_more Bear s.issues new stood.bear (λ i below. borne m.ledger count made m.table i below ∙ stood.counted);
        balanced = each_more (λ i ns. balance ns ≡ pos 0) s.issues new stood.balanced even;
      };
      sheets_are_as_defined = sheets_defined after issued_day left k.laws.records_stand k.sound;
      notes_reach_the_cell = record {
        reach = subst (λ o. Reach o (all_notes after)) (sym by) reaches;
        one_made = λ is. subst WasMade (sym by) a.fair;
      };
    };
    sound = k.sound;
    heading = k.heading;
    counts = k.counts;
    limited = k.limited;
    notes = kept_sound m.ledger count made m.table k.notes near fits;
    balanced = all_even;
    settlement = k.settlement;
    last_issue = k.settlement;
    table = λ tabled. k.table refl;
  }
