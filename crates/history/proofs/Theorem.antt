-- Every history keeps the laws.
use Rattle.std.proofs.Common.{◌≡◌, ℕ, ◌+◌, ◌≤◌, List, length, Ok, Result, sym, refl, ap, ◌∙◌, subst}
use Rattle.faults.specs.declared.fault.Fault.{Fault}
use Rattle.dayfile.specs.Records.{Records}
use Rattle.dayfile.specs.declared.heading.Heading.{Heading}
use Rattle.book.specs.Books.{admitted, entered, no_records}
use Rattle.correcting.specs.Readings.{corrected, correction}
use Rattle.book.proofs.Keeps.{opened_is_sound}
use Rattle.ledger.specs.Issues.{issue_leaves}
use Rattle.ledger.specs.declared.note.Note.{Note}
use Rattle.loading.specs.Loading.{file_records, load_leaves}
use Rattle.loading.proofs.Whole.{loaded_is_sound}
use Rattle.day.specs.Calls.{first_numbers, load_answer, notes_to_add, opened_with, with_counts, with_notes}
use Rattle.day.specs.Memory.{Memory, begun_with, memory}
use Rattle.day.specs.States as day_state
use Rattle.day.specs.States.{day_with}
use Rattle.day.proofs.Beginning.{left_by_load}
use Rattle.history.specs.Events.{Event, Settlement, Summary, begun, none_yet, settled_by, summary, summed}
use Rattle.history.specs.Events as event
use Rattle.history.specs.Histories.{Does, History, closes, closes_not, corrects, corrects_not, enters, enters_not, issues, issues_not, loads, next, opens, reopens, reopens_not, settles, settles_not, sheets, sheets_not, states, states_not}
use Rattle.history.specs.Laws.{Always, EveryHistoryKeepsTheLaws, MemoryStaysSound}
use Rattle.history.specs.declared.states.Day.{Day}
use Rattle.history.specs.declared.states.Day.TheVariants.{Closed, Issued, Open, Settled}
use Rattle.history.proofs.Ends.{issue_ends, reopen_ends, reopen_refused, statement_ends}
use Rattle.history.proofs.Keeping.{close_kept, correct_kept, corrected_reading, enter_kept, entered_item, issue_kept, load_kept, open_kept, reopen_kept, settle_kept}
use Rattle.history.proofs.Kept.{Accepted, Fills, Kept, MadeOf, memory_sound, settled_borne}
use Rattle.history.proofs.Outcomes.{in_order, nothing_against, was_refused, went_well}

-- the same day and memory
kept_at : {s : Summary} {d e : Day} {m n : Memory} → e ≡ d → n ≡ m → Kept s d m → Kept s e n
kept_at {s} {d} {e} {m} {n} p q k = subst (λ (x : Memory). Kept s e x) (sym q) (subst (λ (x : Day). Kept s x m) (sym p) k)

-- an issue, by the settlement that it is of
issue_made : {s : Summary} (d : day_state.Settled) (m : Memory) → d.numbers.notes + length (notes_to_add d.numbers m) ≤ length m.ledger → Kept s (Settled d) m
    → Kept (summed (event.issued (notes_to_add d.numbers m)) s) (Issued (day_with (with_notes d.numbers (length (notes_to_add d.numbers m)))))
    (memory m.records m.table (issue_leaves m.ledger d.numbers.notes (notes_to_add d.numbers m)))
issue_made {s} d m fits k = go s.settlement refl (k.table refl) k.settlement
  where
    go : (o : Settlement) → s.settlement ≡ o → Fills o m.table → MadeOf o
        → Kept (summed (event.issued (notes_to_add d.numbers m)) s) (Issued (day_with (with_notes d.numbers (length (notes_to_add d.numbers m)))))
        (memory m.records m.table (issue_leaves m.ledger d.numbers.notes (notes_to_add d.numbers m)))
    go none_yet p fills made = absurd fills
    go (settled_by parts r) p fills made = issue_kept d m parts r made p fills k fits

noted_as : (s : Summary) {d : Day} {m : Memory} {old new : List Note} → new ≡ old → Kept (summed (event.issued old) s) d m → Kept (summed (event.issued new) s) d m
noted_as s {d} {m} p k = subst (λ (notes : List Note). Kept (summed (event.issued notes) s) d m) (sym p) k

-- one call more
pub does_kept : {s : Summary} {d e : Day} {m n : Memory} {v : Event} → Does d m v e n → Kept s d m → Kept (summed v s) e n
does_kept (enters d e m n bytes item q decoded) k =
    let went = went_well _ _ _ _ _ _ _ q in
    let found = in_order (admitted m.records bytes) (nothing_against _ _ _ went.0).1 in
    let ok = entered_item m.records bytes found.0 item found.1 decoded in
    kept_at (ap Open (went.1 ∙ ap (λ o. day_with (with_counts d.numbers (entered m.records o))) ok))
    (went.2 ∙ ap (λ o. memory (entered m.records o) m.table m.ledger) ok)
    (enter_kept d m bytes item ok k)
does_kept (enters_not d r m n bytes q) k = let went = was_refused _ _ _ _ _ _ _ q in kept_at (ap Open went.1) went.2 k
does_kept (closes d e m n bytes q) k = let went = went_well _ _ _ _ _ _ _ q in kept_at (ap Closed went.1) went.2 (close_kept d m k)
does_kept (closes_not d r m n bytes q) k = let went = was_refused _ _ _ _ _ _ _ q in kept_at (ap Open went.1) went.2 k
does_kept (corrects d e m n reading q) k =
    let went = went_well _ _ _ _ _ _ _ q in
    let found = in_order (correction m.records reading) (nothing_against _ _ _ went.0).1 in
    let ok = corrected_reading m.records reading found.0 found.1 in
    kept_at (ap Closed went.1) (went.2 ∙ ap (λ o. memory (corrected m.records o) m.table m.ledger) ok) (correct_kept d m reading ok k)
does_kept (corrects_not d r m n reading q) k = let went = was_refused _ _ _ _ _ _ _ q in kept_at (ap Closed went.1) went.2 k
does_kept (settles d e m n parts fair q) k =
    let went = went_well _ _ _ _ _ _ _ q in
    let a : Accepted parts m.records = record { fair = fair; sound = k.sound; borne = settled_borne m.records (nothing_against _ _ _ went.0).1 } in
    kept_at (ap Settled went.1) went.2 (settle_kept d m parts a k)
does_kept (settles_not d r m n parts fair q) k = let went = was_refused _ _ _ _ _ _ _ q in kept_at (ap Closed went.1) went.2 k
does_kept (sheets d e m hour parts page filled tabled fair q) k = let went = went_well _ _ _ _ _ _ _ q in kept_at went.1 refl k
does_kept (sheets_not d r m hour parts page left tabled fair q) k = let went = was_refused _ _ _ _ _ _ _ q in kept_at went.1 refl k
does_kept {s} (issues d e count m n q) k =
    let went = issue_ends d e count m n q in
    kept_at (ap Issued went.day) went.memory_is
    (noted_as s went.added (issue_made d m went.fits k))
does_kept (issues_not d r m n q) k = let went = was_refused _ _ _ _ _ _ _ q in kept_at (ap Settled went.1) went.2 k
does_kept (states d e count m number buffer filled q) k = kept_at (ap Issued (statement_ends d e count m number buffer filled q).day) refl k
does_kept (states_not d r m number buffer left q) k = let went = was_refused _ _ _ _ _ _ _ q in kept_at (ap Issued went.1) refl k
does_kept (reopens d e m n q) k =
    let went = reopen_ends d e m n q in
    kept_at (ap Closed went.day) went.memory_is (reopen_kept d m went.issue went.follows k)
does_kept (reopens_not d r m n q) k = let went = reopen_refused d r m n q in kept_at (ap Issued went.0) went.1 k

-- beginnings

abbrev Opening : Type 0
Opening = Result day_state.Open Fault × Memory

abbrev Loading : Type 0
Loading = Result day_state.Closed Fault × Memory

opened_kept : (m n : Memory) (bytes : List ℕ) (d : day_state.Open) (heading : Heading) → ◌≡◌ {A = Opening} (Ok d, n) (opened_with m (Ok heading))
    → Kept (begun (no_records heading)) (Open d) n
opened_kept m n bytes d heading q =
    let same : ◌≡◌ {A = Result day_state.Open Fault} (Ok d) (Ok (day_with (first_numbers (no_records heading)))) = ap (λ (z : Opening). z.0) q in
    let is : d ≡ day_with (first_numbers (no_records heading)) = cc in
    kept_at (ap Open is) (ap (λ (z : Opening). z.1) q) (open_kept (no_records heading) m.ledger (opened_is_sound heading))

loaded_kept : (m n : Memory) (file : List ℕ) (d : day_state.Closed) (r : Records) → file_records file ≡ Ok r
    → ◌≡◌ {A = Loading} (Ok d, n) (load_answer (Ok r), begun_with (load_leaves m.records file) m.ledger) → Kept (begun r) (Closed d) n
loaded_kept m n file d r whole q =
    let same : ◌≡◌ {A = Result day_state.Closed Fault} (Ok d) (Ok (day_with (first_numbers r))) = ap (λ (z : Loading). z.0) q in
    let is : d ≡ day_with (first_numbers r) = cc in
    kept_at (ap Closed is) (ap (λ (z : Loading). z.1) q ∙ ap (λ x. begun_with x m.ledger) (left_by_load m.records file r whole))
    (load_kept r m.ledger (loaded_is_sound file r whole).0)

pub kept : {events : List Event} {d : Day} {m : Memory} → History events d m → Kept (summary events) d m
kept (opens m n bytes d heading q decoded) = opened_kept m n bytes d heading (q ∙ ap (opened_with m) decoded)
kept (loads m n file d r q whole) = loaded_kept m n file d r whole (q ∙ ap (λ o. (load_answer o, begun_with (load_leaves m.records file) m.ledger)) whole)
kept (next h s) = does_kept s (kept h)

pub always : {events : List Event} {d : Day} {m : Memory} (h : History events d m) → Always h
always (opens m n bytes d heading q decoded) = (kept (opens m n bytes d heading q decoded)).laws
always (loads m n file d r q whole) = (kept (loads m n file d r q whole)).laws
always (next h s) = (always h, (kept (next h s)).laws)

pub every_history : EveryHistoryKeepsTheLaws
every_history events d m h = always h

pub stays_sound : MemoryStaysSound
stays_sound events d m h = memory_sound (kept h)
