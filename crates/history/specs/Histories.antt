-- What a history is: an accepted open or load, and then any calls, each on the day last given back and the same memory. An
-- event is what a call did by its own contract.
use Rattle.std.specs.Prelude.{◌≡◌, ℕ, true, List, [], ◌∷◌, length, take, drop, Ok, Err}
use Rattle.decoding.specs.Decoded.{decoded_heading, decoded_record}
use Rattle.dayfile.specs.Records.{Records}
use Rattle.dayfile.specs.declared.heading.Heading.{Heading}
use Rattle.dayfile.specs.declared.record.Record.{Record}
use Rattle.correcting.specs.declared.reading.Reading.{Reading}
use Rattle.codes.specs.declared.table.Table.{Table}
use Rattle.ledger.specs.declared.note.Note.{Note}
use Rattle.loading.specs.Loading.{file_records}
use Rattle.sharing.specs.Fair.{Fair}
use Rattle.day.specs.Calls.{Parts, close_gives, correct_gives, enter_gives, issue_gives, load_gives, open_gives, reopen_gives, settle_gives, sheet_gives, statement_gives}
use Rattle.day.specs.Memory.{Memory}
use Rattle.day.specs.States as day_state
use Rattle.day.specs.declared.refused.Refused.{Refused}
use Rattle.history.specs.Events.{Event, closed, closing, corrected, correcting, entered, entering, issued, issuing, loaded, opened, refused, reopened, reopening, settled, settling, sheeted, sheeting, stated, stating}
use Rattle.history.specs.States.{has_table, issues_made, numbers_of}
use Rattle.history.specs.declared.states.Day.{Day}
use Rattle.history.specs.declared.states.Day.TheVariants.{Closed, Issued, Open, Settled}

-- the notes that an issue added: as many entries as it answered, behind the earlier notes
abbrev pub added_notes : ℕ → ℕ → Memory → List Note
added_notes earlier count m = take count (drop earlier m.ledger)

-- One call on a day and its memory, with the event that it is, the day that it gives back and the memory that it leaves.
pub data Does : Day → Memory → Event → Day → Memory → Type 0 where
  enters : (d e : day_state.Open) (m n : Memory) (bytes : List ℕ) (item : Record) → (Ok e, n) ≡ enter_gives d m bytes → decoded_record bytes ≡ Ok item
      → Does (Open d) m (entered bytes item) (Open e) n
  enters_not : (d : day_state.Open) (r : Refused day_state.Open) (m n : Memory) (bytes : List ℕ) → (Err r, n) ≡ enter_gives d m bytes
      → Does (Open d) m (refused (entering bytes) r.fault) (Open r.day) n
  closes : (d : day_state.Open) (e : day_state.Closed) (m n : Memory) (bytes : List ℕ) → (Ok e, n) ≡ close_gives d m bytes
      → Does (Open d) m (closed bytes) (Closed e) n
  closes_not : (d : day_state.Open) (r : Refused day_state.Open) (m n : Memory) (bytes : List ℕ) → (Err r, n) ≡ close_gives d m bytes
      → Does (Open d) m (refused (closing bytes) r.fault) (Open r.day) n
  corrects : (d e : day_state.Closed) (m n : Memory) (reading : Reading) → (Ok e, n) ≡ correct_gives d m reading
      → Does (Closed d) m (corrected reading) (Closed e) n
  corrects_not : (d : day_state.Closed) (r : Refused day_state.Closed) (m n : Memory) (reading : Reading) → (Err r, n) ≡ correct_gives d m reading
      → Does (Closed d) m (refused (correcting reading) r.fault) (Closed r.day) n
  settles : (d : day_state.Closed) (e : day_state.Settled) (m n : Memory) (parts : Parts) → Fair parts → (Ok e, n) ≡ settle_gives parts d m
      → Does (Closed d) m (settled parts) (Settled e) n
  settles_not : (d : day_state.Closed) (r : Refused day_state.Closed) (m n : Memory) (parts : Parts) → Fair parts → (Err r, n) ≡ settle_gives parts d m
      → Does (Closed d) m (refused (settling parts) r.fault) (Closed r.day) n
  -- a sheet is of a settled or of an issued day, and fills the page that was lent
  sheets : (d e : Day) (m : Memory) (hour : ℕ) (parts : Parts) (page filled : Table) → has_table d ≡ true → Fair parts
      → (Ok e, filled) ≡ sheet_gives parts d (numbers_of d) (issues_made d) m hour page
      → Does d m (sheeted hour parts filled) e m
  sheets_not : (d : Day) (r : Refused Day) (m : Memory) (hour : ℕ) (parts : Parts) (page left : Table) → has_table d ≡ true → Fair parts
      → (Err r, left) ≡ sheet_gives parts d (numbers_of d) (issues_made d) m hour page
      → Does d m (refused (sheeting hour parts) r.fault) r.day m
  issues : (d : day_state.Settled) (e : day_state.Issued) (count : ℕ) (m n : Memory) → (Ok (e, count), n) ≡ issue_gives d m
      → Does (Settled d) m (issued (added_notes d.numbers.notes count n)) (Issued e) n
  issues_not : (d : day_state.Settled) (r : Refused day_state.Settled) (m n : Memory) → (Err r, n) ≡ issue_gives d m
      → Does (Settled d) m (refused issuing r.fault) (Settled r.day) n
  -- a statement writes its text at the front of the buffer that was lent
  states : (d e : day_state.Issued) (count : ℕ) (m : Memory) (number : ℕ) (buffer filled : List ℕ) → (Ok (e, count), filled) ≡ statement_gives d m number buffer
      → Does (Issued d) m (stated number (length buffer) (take count filled)) (Issued e) m
  states_not : (d : day_state.Issued) (r : Refused day_state.Issued) (m : Memory) (number : ℕ) (buffer left : List ℕ) → (Err r, left) ≡ statement_gives d m number buffer
      → Does (Issued d) m (refused (stating number (length buffer)) r.fault) (Issued r.day) m
  reopens : (d : day_state.Issued) (e : day_state.Closed) (m n : Memory) → (Ok e, n) ≡ reopen_gives d m
      → Does (Issued d) m reopened (Closed e) n
  reopens_not : (d : day_state.Issued) (r : Refused day_state.Issued) (m n : Memory) → (Err r, n) ≡ reopen_gives d m
      → Does (Issued d) m (refused reopening r.fault) (Issued r.day) n

-- The calls made so far, newest first, with the day and the memory that they led to.
pub data History : List Event → Day → Memory → Type 0 where
  opens : (m n : Memory) (bytes : List ℕ) (d : day_state.Open) (heading : Heading) → (Ok d, n) ≡ open_gives m bytes → decoded_heading bytes ≡ Ok heading
      → History (opened bytes (length m.ledger) heading ∷ []) (Open d) n
  loads : (m n : Memory) (file : List ℕ) (d : day_state.Closed) (records : Records) → (Ok d, n) ≡ load_gives m file → file_records file ≡ Ok records
      → History (loaded file (length m.ledger) records ∷ []) (Closed d) n
  next : {events : List Event} {d e : Day} {m n : Memory} {event : Event} → History events d m → Does d m event e n → History (event ∷ events) e n
