-- The calls determine histories: each call's event, day and memory follow from the day and the memory before it.
use Rattle.std.proofs.Common.{◌≡◌, ℕ, ◌≤◌, List, [], ◌∷◌, length, replicate, Some, None, Ok, Err, Option, Result, sym, ap, ◌∙◌, arith, length-append}
use Rattle.std.proofs.lemmas.List.{same_from_push}
use Rattle.faults.specs.declared.fault.Fault.{Fault}
use Rattle.decoding.specs.Decoded.{decoded_heading, decoded_record}
use Rattle.dayfile.specs.Records.{Records}
use Rattle.dayfile.specs.declared.heading.Heading.{Heading}
use Rattle.dayfile.specs.declared.record.Record.{Record}
use Rattle.book.specs.Books.{new_heading, no_records}
use Rattle.correcting.specs.declared.reading.Reading.{Reading}
use Rattle.codes.specs.Cells.{empty_cells}
use Rattle.ledger.specs.Notes.{no_note}
use Rattle.loading.specs.Loading.{file_records, load_leaves}
use Rattle.settlement.specs.Sheets.{sheet}
use Rattle.statement.specs.Statements.{statement_text}
use Rattle.day.specs.Calls.{Parts, close_gives, correct_gives, enter_gives, first_numbers, issue_gives, load_answer, notes_in, opened_with, reopen_gives, settle_gives, sheet_call_refusal, statement_refusal}
use Rattle.day.specs.Memory.{Memory, begun_with, memory}
use Rattle.day.specs.States as day_state
use Rattle.day.specs.States.{day_with}
use Rattle.day.specs.Tables.{table_of}
use Rattle.day.specs.declared.refused.Refused.{Refused}
use Rattle.day.proofs.Beginning.{left_by_load}
use Rattle.history.specs.Events.{Call, Event, call_of, calls_of, closed, closing, corrected, correcting, entered, entering, issued, issuing, loaded, loading, opened, opening, refused, reopened, reopening, settled, settling, sheeted, sheeting, stated, stating}
use Rattle.history.specs.Histories.{Does, History, added_notes, closes, closes_not, corrects, corrects_not, enters, enters_not, issues, issues_not, loads, next, opens, reopens, reopens_not, settles, settles_not, sheets, sheets_not, states, states_not}
use Rattle.history.specs.Laws.{CallsDetermineHistories}
use Rattle.history.specs.States.{issues_made, numbers_of}
use Rattle.history.specs.declared.states.Day.{Day}
use Rattle.history.specs.declared.states.Day.TheVariants.{Closed, Issued, Open, Settled}
use Rattle.history.proofs.Ends.{refusal_in_room, statement_ends}
use Rattle.history.proofs.Outcomes.{was_refused, went_well}

-- what a call comes to: the event, the day and the memory
abbrev End : Type 0
End = Event × Day × Memory

-- a call that the day's state does not take comes to nothing
abbrev nothing : Day → Memory → End
nothing d m = (reopened, d, m)

abbrev entered_as : List ℕ → Result Record Fault → Event
entered_as bytes (Ok item) = entered bytes item
entered_as bytes (Err f) = reopened

abbrev enter_end : List ℕ → Result day_state.Open (Refused day_state.Open) × Memory → End
enter_end bytes g = by g.0
  where
    by : Result day_state.Open (Refused day_state.Open) → End
    by (Ok e) = (entered_as bytes (decoded_record bytes), Open e, g.1)
    by (Err r) = (refused (entering bytes) r.fault, Open r.day, g.1)

abbrev close_end : List ℕ → Result day_state.Closed (Refused day_state.Open) × Memory → End
close_end bytes g = by g.0
  where
    by : Result day_state.Closed (Refused day_state.Open) → End
    by (Ok e) = (closed bytes, Closed e, g.1)
    by (Err r) = (refused (closing bytes) r.fault, Open r.day, g.1)

abbrev correct_end : Reading → Result day_state.Closed (Refused day_state.Closed) × Memory → End
correct_end reading g = by g.0
  where
    by : Result day_state.Closed (Refused day_state.Closed) → End
    by (Ok e) = (corrected reading, Closed e, g.1)
    by (Err r) = (refused (correcting reading) r.fault, Closed r.day, g.1)

abbrev settle_end : Parts → Result day_state.Settled (Refused day_state.Closed) × Memory → End
settle_end parts g = by g.0
  where
    by : Result day_state.Settled (Refused day_state.Closed) → End
    by (Ok e) = (settled parts, Settled e, g.1)
    by (Err r) = (refused (settling parts) r.fault, Closed r.day, g.1)

abbrev sheet_end : Day → Memory → ℕ → Parts → Option Fault → End
sheet_end d m hour parts None = (sheeted hour parts (table_of (sheet parts m.records hour)), d, m)
sheet_end d m hour parts (Some f) = (refused (sheeting hour parts) f, d, m)

abbrev issue_end : day_state.Settled → Result (day_state.Issued × ℕ) (Refused day_state.Settled) × Memory → End
issue_end d g = by g.0
  where
    by : Result (day_state.Issued × ℕ) (Refused day_state.Settled) → End
    by (Ok e) = (issued (added_notes d.numbers.notes e.1 g.1), Issued e.0, g.1)
    by (Err r) = (refused issuing r.fault, Settled r.day, g.1)

abbrev statement_end : day_state.Issued → Memory → ℕ → ℕ → Option Fault → End
statement_end d m number room None = (stated number room (statement_text d.numbers.heading (notes_in d.numbers m) number), Issued d, m)
statement_end d m number room (Some f) = (refused (stating number room) f, Issued d, m)

abbrev reopen_end : Result day_state.Closed (Refused day_state.Issued) × Memory → End
reopen_end g = by g.0
  where
    by : Result day_state.Closed (Refused day_state.Issued) → End
    by (Ok e) = (reopened, Closed e, g.1)
    by (Err r) = (refused reopening r.fault, Issued r.day, g.1)

abbrev on_open : Day → (day_state.Open → End) → Memory → End
on_open (Open d) f m = f d
on_open (Closed d) f m = nothing (Closed d) m
on_open (Settled d) f m = nothing (Settled d) m
on_open (Issued d) f m = nothing (Issued d) m

abbrev on_closed : Day → (day_state.Closed → End) → Memory → End
on_closed (Open d) f m = nothing (Open d) m
on_closed (Closed d) f m = f d
on_closed (Settled d) f m = nothing (Settled d) m
on_closed (Issued d) f m = nothing (Issued d) m

abbrev on_settled : Day → (day_state.Settled → End) → Memory → End
on_settled (Open d) f m = nothing (Open d) m
on_settled (Closed d) f m = nothing (Closed d) m
on_settled (Settled d) f m = f d
on_settled (Issued d) f m = nothing (Issued d) m

abbrev on_issued : Day → (day_state.Issued → End) → Memory → End
on_issued (Open d) f m = nothing (Open d) m
on_issued (Closed d) f m = nothing (Closed d) m
on_issued (Settled d) f m = nothing (Settled d) m
on_issued (Issued d) f m = f d

abbrev after : Day → Memory → Call → End
after day m (opening bytes entries) = nothing day m
after day m (loading file entries) = nothing day m
after day m (entering bytes) = on_open day (λ d. enter_end bytes (enter_gives d m bytes)) m
after day m (closing bytes) = on_open day (λ d. close_end bytes (close_gives d m bytes)) m
after day m (correcting reading) = on_closed day (λ d. correct_end reading (correct_gives d m reading)) m
after day m (settling parts) = on_closed day (λ d. settle_end parts (settle_gives parts d m)) m
after day m (sheeting hour parts) = sheet_end day m hour parts (sheet_call_refusal (numbers_of day) (issues_made day) m hour)
after day m issuing = on_settled day (λ d. issue_end d (issue_gives d m)) m
after day m (stating number room) = on_issued day (λ d. statement_end d m number room (refusal_in_room d m number room)) m
after day m reopening = on_issued day (λ d. reopen_end (reopen_gives d m)) m

does_after : {d e : Day} {m n : Memory} {v : Event} → Does d m v e n → ◌≡◌ {A = End} (v, e, n) (after d m (call_of v))
does_after (enters d e m n bytes item q decoded) = ap (λ o. (entered_as bytes o, Open e, n)) (sym decoded) ∙ ap (enter_end bytes) q
does_after (enters_not d r m n bytes q) = ap (enter_end bytes) q
does_after (closes d e m n bytes q) = ap (close_end bytes) q
does_after (closes_not d r m n bytes q) = ap (close_end bytes) q
does_after (corrects d e m n reading q) = ap (correct_end reading) q
does_after (corrects_not d r m n reading q) = ap (correct_end reading) q
does_after (settles d e m n parts fair q) = ap (settle_end parts) q
does_after (settles_not d r m n parts fair q) = ap (settle_end parts) q
does_after (sheets d e m hour parts page filled tabled fair q) =
    let went = went_well _ _ _ _ _ _ _ q in
    ap (λ t. (sheeted hour parts t, e, m)) went.2 ∙ ap (λ x. (sheeted hour parts (table_of (sheet parts m.records hour)), x, m)) went.1 ∙ ap (sheet_end d m hour parts) (sym went.0)
does_after (sheets_not d r m hour parts page left tabled fair q) =
    let went = was_refused _ _ _ _ _ _ _ q in
    ap (λ x. (refused (sheeting hour parts) r.fault, x, m)) went.1 ∙ ap (sheet_end d m hour parts) (sym went.0)
does_after (issues d e count m n q) = ap (issue_end d) q
does_after (issues_not d r m n q) = ap (issue_end d) q
does_after (states d e count m number buffer filled q) =
    let ends = statement_ends d e count m number buffer filled q in
    let went = went_well (statement_refusal d m number buffer) _ _ _ _ _ _ q in
    ap (λ t. (stated number (length buffer) t, Issued e, m)) ends.text ∙ ap (λ x. (stated number (length buffer) (statement_text d.numbers.heading (notes_in d.numbers m) number), Issued x, m)) ends.day
    ∙ ap (statement_end d m number (length buffer)) (sym went.0)
does_after (states_not d r m number buffer left q) =
    let went = was_refused (statement_refusal d m number buffer) _ _ _ _ _ _ q in
    ap (λ x. (refused (stating number (length buffer)) r.fault, Issued x, m)) went.1 ∙ ap (statement_end d m number (length buffer)) (sym went.0)
does_after (reopens d e m n q) = ap reopen_end q
does_after (reopens_not d r m n q) = ap reopen_end q

-- beginnings

abbrev begun_in : Records → ℕ → Memory
begun_in r entries = memory r (record { cells = empty_cells }) (replicate entries no_note)

abbrev open_end : List ℕ → ℕ → Result Heading Fault → End
open_end bytes entries (Ok heading) = (opened bytes entries heading, Open (day_with (first_numbers (no_records heading))), begun_in (no_records heading) entries)
open_end bytes entries (Err f) = nothing (Open (day_with (first_numbers (no_records new_heading)))) (begun_in (no_records new_heading) entries)

abbrev load_end : List ℕ → ℕ → Result Records Fault → End
load_end file entries (Ok r) = (loaded file entries r, Closed (day_with (first_numbers r)), begun_in r entries)
load_end file entries (Err f) = nothing (Open (day_with (first_numbers (no_records new_heading)))) (begun_in (no_records new_heading) entries)

abbrev first_end : Call → End
first_end (opening bytes entries) = open_end bytes entries (decoded_heading bytes)
first_end (loading file entries) = load_end file entries (file_records file)
first_end (entering bytes) = load_end [] 0 (file_records [])
first_end (closing bytes) = load_end [] 0 (file_records [])
first_end (correcting reading) = load_end [] 0 (file_records [])
first_end (settling parts) = load_end [] 0 (file_records [])
first_end (sheeting hour parts) = load_end [] 0 (file_records [])
first_end issuing = load_end [] 0 (file_records [])
first_end (stating number room) = load_end [] 0 (file_records [])
first_end reopening = load_end [] 0 (file_records [])

abbrev Opening : Type 0
Opening = Result day_state.Open Fault × Memory

abbrev Loading : Type 0
Loading = Result day_state.Closed Fault × Memory

open_by : List ℕ → ℕ → Heading → Opening → End
open_by bytes entries heading g = by g.0
  where
    by : Result day_state.Open Fault → End
    by (Ok d) = (opened bytes entries heading, Open d, g.1)
    by (Err f) = (reopened, Open (day_with (first_numbers (no_records heading))), g.1)

load_by : List ℕ → ℕ → Records → Loading → End
load_by file entries r g = by g.0
  where
    by : Result day_state.Closed Fault → End
    by (Ok d) = (loaded file entries r, Closed d, g.1)
    by (Err f) = (reopened, Closed (day_with (first_numbers r)), g.1)

opens_end : (m n : Memory) (bytes : List ℕ) (d : day_state.Open) (heading : Heading) → ◌≡◌ {A = Opening} (Ok d, n) (opened_with m (decoded_heading bytes)) → decoded_heading bytes ≡ Ok heading
    → ◌≡◌ {A = End} (opened bytes (length m.ledger) heading, Open d, n) (first_end (opening bytes (length m.ledger)))
unfolding open_by
opens_end m n bytes d heading q decoded =
    ap (open_by bytes (length m.ledger) heading) (q ∙ ap (opened_with m) decoded) ∙ ap (open_end bytes (length m.ledger)) (sym decoded)

loads_end : (m n : Memory) (file : List ℕ) (d : day_state.Closed) (r : Records) → ◌≡◌ {A = Loading} (Ok d, n) (load_answer (file_records file), begun_with (load_leaves m.records file) m.ledger) → file_records file ≡ Ok r
    → ◌≡◌ {A = End} (loaded file (length m.ledger) r, Closed d, n) (first_end (loading file (length m.ledger)))
unfolding load_by
loads_end m n file d r q whole =
    ap (load_by file (length m.ledger) r) (q ∙ ap (λ o. (load_answer o, begun_with (load_leaves m.records file) m.ledger)) whole ∙ ap (λ x. (load_answer (Ok r), begun_with x m.ledger)) (left_by_load m.records file r whole))
    ∙ ap (load_end file (length m.ledger)) (sym whole)

-- two histories of one call each
one_call : (v w : Event) (d e : Day) (m n : Memory) → ◌≡◌ {A = End} (v, d, m) (first_end (call_of v)) → ◌≡◌ {A = End} (w, e, n) (first_end (call_of w)) → calls_of (v ∷ []) ≡ calls_of (w ∷ [])
    → ((v ∷ []) ≡ (w ∷ [])) × (d ≡ e) × (m ≡ n)
one_call v w d e m n here there calls =
    let both : ◌≡◌ {A = End} (v, d, m) (w, e, n) = here ∙ ap first_end (same_from_push [] [] (call_of v) (call_of w) calls).1 ∙ sym there in
    (ap (λ (x : End). x.0 ∷ []) both, ap (λ (x : End). x.1) both, ap (λ (x : End). x.2) both)

some_call : {events : List Event} {d : Day} {m : Memory} → History events d m → 1 ≤ length (calls_of events)
some_call (opens m n bytes d heading q decoded) = omega arith
some_call (loads m n file d r q whole) = omega arith
some_call (next h s) = simp length-append (omega arith)

-- one call is not two
longer : {events : List Event} {d : Day} {m : Memory} (v w : Event) → History events d m → calls_of (v ∷ []) ≡ calls_of (w ∷ events) → {X : Type 0} → X
longer {events} v w h calls =
    let l = ap length calls ∙ length-append (calls_of events) (call_of w ∷ []) in
    let one = some_call h in
    absurd (omega arith)

pub determined : CallsDetermineHistories
determined es fs d e m n (opens m₁ n₁ bytes₁ d₁ h₁ q₁ p₁) (opens m₂ n₂ bytes₂ d₂ h₂ q₂ p₂) calls = one_call _ _ _ _ _ _ (opens_end m₁ n₁ bytes₁ d₁ h₁ q₁ p₁) (opens_end m₂ n₂ bytes₂ d₂ h₂ q₂ p₂) calls
determined es fs d e m n (opens m₁ n₁ bytes₁ d₁ h₁ q₁ p₁) (loads m₂ n₂ file₂ d₂ r₂ q₂ p₂) calls = one_call _ _ _ _ _ _ (opens_end m₁ n₁ bytes₁ d₁ h₁ q₁ p₁) (loads_end m₂ n₂ file₂ d₂ r₂ q₂ p₂) calls
determined es fs d e m n (loads m₁ n₁ file₁ d₁ r₁ q₁ p₁) (opens m₂ n₂ bytes₂ d₂ h₂ q₂ p₂) calls = one_call _ _ _ _ _ _ (loads_end m₁ n₁ file₁ d₁ r₁ q₁ p₁) (opens_end m₂ n₂ bytes₂ d₂ h₂ q₂ p₂) calls
determined es fs d e m n (loads m₁ n₁ file₁ d₁ r₁ q₁ p₁) (loads m₂ n₂ file₂ d₂ r₂ q₂ p₂) calls = one_call _ _ _ _ _ _ (loads_end m₁ n₁ file₁ d₁ r₁ q₁ p₁) (loads_end m₂ n₂ file₂ d₂ r₂ q₂ p₂) calls
determined es fs d e m n (opens m₁ n₁ bytes₁ d₁ h₁ q₁ p₁) (next {events = gs} {event = w} h s) calls = longer (opened bytes₁ (length m₁.ledger) h₁) w h calls
determined es fs d e m n (loads m₁ n₁ file₁ d₁ r₁ q₁ p₁) (next {events = gs} {event = w} h s) calls = longer (loaded file₁ (length m₁.ledger) r₁) w h calls
determined es fs d e m n (next {events = gs} {event = v} h s) (opens m₂ n₂ bytes₂ d₂ h₂ q₂ p₂) calls = longer (opened bytes₂ (length m₂.ledger) h₂) v h (sym calls)
determined es fs d e m n (next {events = gs} {event = v} h s) (loads m₂ n₂ file₂ d₂ r₂ q₂ p₂) calls = longer (loaded file₂ (length m₂.ledger) r₂) v h (sym calls)
determined es fs d e m n (next {events = gs} {d = d₁} {e = e₁} {m = m₁} {n = n₁} {event = v} h s) (next {events = hs} {d = d₂} {e = e₂} {m = m₂} {n = n₂} {event = w} k t) calls =
    let ends = same_from_push (calls_of gs) (calls_of hs) (call_of v) (call_of w) calls in
    let before = determined gs hs d₁ d₂ m₁ m₂ h k ends.0 in
    let here : ◌≡◌ {A = End} (v, e₁, n₁) (after d₁ m₁ (call_of v)) = does_after s in
    let there : ◌≡◌ {A = End} (w, e₂, n₂) (after d₂ m₂ (call_of w)) = does_after t in
    let both : ◌≡◌ {A = End} (v, e₁, n₁) (w, e₂, n₂) =
    here ∙ ap (after d₁ m₁) ends.1 ∙ ap (λ x. after x m₁ (call_of w)) before.1 ∙ ap (λ x. after d₂ x (call_of w)) before.2 ∙ sym there in
    (ap (λ (x : End). x.0 ∷ gs) both ∙ ap (λ l. w ∷ l) before.0, ap (λ (x : End). x.1) both, ap (λ (x : End). x.2) both)
