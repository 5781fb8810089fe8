-- Each call of a history, from the contract of the call.
use Rattle.std.proofs.Common.{◌≡◌, ℕ, List, [], ◌∷◌, length, Ok, Err, Result, sym, refl, ap, ◌∙◌}
use Rattle.faults.specs.declared.fault.Fault.{Fault}
use Rattle.decoding.specs.Decoded.{decoded_heading, decoded_record}
use Rattle.dayfile.specs.Records.{Records}
use Rattle.dayfile.specs.declared.heading.Heading.{Heading}
use Rattle.book.specs.Books.{admission, admitted}
use Rattle.codes.specs.declared.table.Table.{Table}
use Rattle.loading.specs.Loading.{file_records, load_leaves}
use Rattle.loading.proofs.Whole.{both}
use Rattle.sharing.specs.Fair.{Fair}
use Rattle.day.specs.Calls.{Parts, enter_gives, issue_gives, load_answer, load_gives, made_before, made_with, open_gives, opened_with, sheet_gives, statement_gives}
use Rattle.day.specs.Memory.{Memory, begun_with}
use Rattle.day.specs.States as day_state
use Rattle.day.specs.declared.refused.Refused.{Refused}
use Rattle.history.specs.Events.{Lent, entering, issuing, lent, loading, opening, sheeting, stating}
use Rattle.history.specs.Histories.{enters, issues, loads, opens, sheets, sheets_not, states, states_not}
use Rattle.history.specs.Replays.{Replayed, Stepped}
use Rattle.history.specs.declared.states.Day.TheVariants.{Closed, Issued, Open, Settled}
use Rattle.history.specs.declared.steps.Outcome.TheVariants.{Added, Done, Written}
use Rattle.history.proofs.Ends.{issue_ends, statement_ends}
use Rattle.history.proofs.Outcomes.{in_order, nothing_against, ok_not_err, was_refused, went_well}
use Rattle.history.proofs.Replaying.{as_day, as_refused, page_left, replayed, stepped}

pub enter_step : (d e : day_state.Open) (m n : Memory) (bytes : List ℕ) (l : Lent) → (Ok e, n) ≡ enter_gives d m bytes → Stepped (entering bytes) (Ok Done) (Open d) m l (Open e) n l
enter_step d e m n bytes l q =
    let went = went_well _ _ _ _ _ _ _ q in
    let found = in_order (admitted m.records bytes) (nothing_against _ _ _ went.0).1 in
    let decoded = both (decoded_record bytes) (admission m.records) found.0 found.1 in
    stepped (entering bytes) (Ok Done) l l (enters d e m n bytes decoded.0 q decoded.1) refl refl refl

pub settled_sheet : (d e : day_state.Settled) (m : Memory) (hour : ℕ) (parts : Parts) (page filled : Table) (buffer : List ℕ) → Fair parts
    → (Ok e, filled) ≡ sheet_gives parts d d.numbers (made_before d.numbers) m hour page → Stepped (sheeting hour parts) (Ok Done) (Settled d) m (lent page buffer) (Settled e) m (lent filled buffer)
settled_sheet d e m hour parts page filled buffer fair q =
    stepped (sheeting hour parts) (Ok Done) (lent page buffer) (lent filled buffer) (sheets (Settled d) (Settled e) m hour parts page filled refl fair (as_day Settled _ d page _ e filled q)) refl refl refl

pub issued_sheet : (d e : day_state.Issued) (m : Memory) (hour : ℕ) (parts : Parts) (page filled : Table) (buffer : List ℕ) → Fair parts
    → (Ok e, filled) ≡ sheet_gives parts d d.numbers (made_with d.numbers) m hour page → Stepped (sheeting hour parts) (Ok Done) (Issued d) m (lent page buffer) (Issued e) m (lent filled buffer)
issued_sheet d e m hour parts page filled buffer fair q =
    stepped (sheeting hour parts) (Ok Done) (lent page buffer) (lent filled buffer) (sheets (Issued d) (Issued e) m hour parts page filled refl fair (as_day Issued _ d page _ e filled q)) refl refl refl

pub settled_sheet_not : (d : day_state.Settled) (r : Refused day_state.Settled) (m : Memory) (hour : ℕ) (parts : Parts) (page left : Table) (buffer : List ℕ) → Fair parts
    → (Err r, left) ≡ sheet_gives parts d d.numbers (made_before d.numbers) m hour page → Stepped (sheeting hour parts) (Err r.fault) (Settled d) m (lent page buffer) (Settled r.day) m (lent left buffer)
settled_sheet_not d r m hour parts page left buffer fair q =
    stepped (sheeting hour parts) (Err r.fault) (lent page buffer) (lent left buffer) (sheets_not (Settled d) (record { day = Settled r.day; fault = r.fault }) m hour parts page left refl fair (as_refused Settled _ d page _ r left q)) refl refl
    (ap (λ p. lent p buffer) (page_left Settled _ d page _ r left q))

pub issued_sheet_not : (d : day_state.Issued) (r : Refused day_state.Issued) (m : Memory) (hour : ℕ) (parts : Parts) (page left : Table) (buffer : List ℕ) → Fair parts
    → (Err r, left) ≡ sheet_gives parts d d.numbers (made_with d.numbers) m hour page → Stepped (sheeting hour parts) (Err r.fault) (Issued d) m (lent page buffer) (Issued r.day) m (lent left buffer)
issued_sheet_not d r m hour parts page left buffer fair q =
    stepped (sheeting hour parts) (Err r.fault) (lent page buffer) (lent left buffer) (sheets_not (Issued d) (record { day = Issued r.day; fault = r.fault }) m hour parts page left refl fair (as_refused Issued _ d page _ r left q)) refl refl
    (ap (λ p. lent p buffer) (page_left Issued _ d page _ r left q))

pub issue_step : (d : day_state.Settled) (e : day_state.Issued) (count : ℕ) (m n : Memory) (l : Lent) → (Ok (e, count), n) ≡ issue_gives d m → Stepped issuing (Ok (Added count)) (Settled d) m l (Issued e) n l
issue_step d e count m n l q =
    let went = issue_ends d e count m n q in
    stepped issuing (Ok (Added count)) l l (issues d e count m n q) refl (ap (λ n. Ok (Added n)) (ap length went.added ∙ sym went.many)) refl

pub statement_step : (d e : day_state.Issued) (count : ℕ) (m : Memory) (number : ℕ) (page : Table) (buffer filled : List ℕ) → (Ok (e, count), filled) ≡ statement_gives d m number buffer
    → Stepped (stating number (length buffer)) (Ok (Written count)) (Issued d) m (lent page buffer) (Issued e) m (lent page filled)
statement_step d e count m number page buffer filled q =
    let went = statement_ends d e count m number buffer filled q in
    stepped (stating number (length buffer)) (Ok (Written count)) (lent page buffer) (lent page filled) (states d e count m number buffer filled q) refl (ap (λ n. Ok (Written n)) (sym went.many)) (ap (lent page) went.left)

pub statement_step_not : (d : day_state.Issued) (r : Refused day_state.Issued) (m : Memory) (number : ℕ) (page : Table) (buffer left : List ℕ) → (Err r, left) ≡ statement_gives d m number buffer
    → Stepped (stating number (length buffer)) (Err r.fault) (Issued d) m (lent page buffer) (Issued r.day) m (lent page left)
statement_step_not d r m number page buffer left q =
    let went = was_refused _ _ _ _ _ _ _ q in
    stepped (stating number (length buffer)) (Err r.fault) (lent page buffer) (lent page left) (states_not d r m number buffer left q) refl refl (ap (lent page) (sym went.2))

-- beginnings

abbrev Opening : Type 0
Opening = Result day_state.Open Fault × Memory

abbrev Loading : Type 0
Loading = Result day_state.Closed Fault × Memory

opened_from : (m n : Memory) (d : day_state.Open) (o : Result Heading Fault) → ◌≡◌ {A = Opening} (Ok d, n) (opened_with m o) → (heading : Heading) × (o ≡ Ok heading)
opened_from m n d (Ok heading) q = (heading, refl)
opened_from m n d (Err f) q = ok_not_err (ap (λ (z : Opening). z.0) q)

loaded_from : (n k : Memory) (d : day_state.Closed) (o : Result Records Fault) → ◌≡◌ {A = Loading} (Ok d, n) (load_answer o, k) → (records : Records) × (o ≡ Ok records)
loaded_from n k d (Ok records) q = (records, refl)
loaded_from n k d (Err f) q = ok_not_err (ap (λ (z : Loading). z.0) q)

pub open_step : (m n : Memory) (bytes : List ℕ) (d : day_state.Open) (l : Lent) → (Ok d, n) ≡ open_gives m bytes → Replayed (opening bytes (length m.ledger) ∷ []) (Ok Done ∷ []) (Open d) n l l
open_step m n bytes d l q =
    let heading = opened_from m n d (decoded_heading bytes) q in
    replayed _ _ l l refl refl refl (opens m n bytes d heading.0 q heading.1)

pub load_step : (m n : Memory) (file : List ℕ) (d : day_state.Closed) (l : Lent) → (Ok d, n) ≡ load_gives m file → Replayed (loading file (length m.ledger) ∷ []) (Ok Done ∷ []) (Closed d) n l l
load_step m n file d l q =
    let records = loaded_from n (begun_with (load_leaves m.records file) m.ledger) d (file_records file) q in
    replayed _ _ l l refl refl refl (loads m n file d records.0 q records.1)
