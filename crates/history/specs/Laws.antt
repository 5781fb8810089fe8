-- The laws of histories.
use Rattle.std.specs.Prelude.{◌≡◌, ℕ, ◌-◌, ◌<◌, ◌≤◌, true, List, [], ◌∷◌, length, get_or, take, pos, ◌-ℤ◌, ◌*ℤ◌, Ok, sum, ◌≢◌, slice_index, slice_index_or, unsigned_abs}
use Rattle.faults.specs.declared.refusal.Refusal.TheVariants.{UnsoundMemory}
use Rattle.dayfile.specs.Records.{Records}
use Rattle.codes.specs.Cells.{cell}
use Rattle.codes.specs.Codes.{basis_of}
use Rattle.codes.specs.Sums.{sum_over, total}
use Rattle.codes.specs.declared.code.Basis.TheVariants.{Own}
use Rattle.codes.specs.declared.code.Code.{Code}
use Rattle.codes.specs.declared.table.Table.{Table}
use Rattle.amounts.specs.Amounts.{accounts, shared, weights}
use Rattle.ledger.specs.Issues.{noted}
use Rattle.ledger.specs.Laws.{balance}
use Rattle.ledger.specs.Notes.{no_note}
use Rattle.ledger.specs.declared.note.Note.{Note}
use Rattle.settlement.specs.Days.{day_cell}
use Rattle.settlement.specs.Sheets.{sheet}
use Rattle.sharing.specs.Fair.{Fair}
use Rattle.day.specs.Calls.{Parts, sheet_gives}
use Rattle.day.specs.Memory.{Memory, sound_memory}
use Rattle.history.specs.Events.{Event, Settlement, Summary, all_notes, calls_of, closed, corrected, entered, issued, loaded, none_yet, opened, refused, reopened, settled, settled_by, sheeted, stated, summary}
use Rattle.history.specs.Histories.{History, loads, next, opens}
use Rattle.history.specs.States.{has_table, is_issued, issues_made, numbers_of}
use Rattle.history.specs.declared.states.Day.{Day}
use Rattle.history.specs.declared.states.Day.TheVariants.{Closed, Open}

-- each of the notes bears the number
abbrev pub Bear : ℕ → List Note → Type 0
Bear number notes = (i : ℕ) → i < length notes → (get_or notes i no_note).issue ≡ number

-- Notes stand and balance: up to the day's note count the ledger holds exactly the notes that the issues added; those of each
-- issue bear its number and add up to zero over all codes and parties.
pub record NotesStandAndBalance (s : Summary) (day : Day) (m : Memory) : Type 0 where
  pub many : (numbers_of day).notes ≡ length (all_notes s)
  pub stand : take (numbers_of day).notes m.ledger ≡ all_notes s
  pub counted : issues_made day ≡ length s.issues
  pub bear : (number : ℕ) → number < length s.issues → Bear number (slice_index_or s.issues number [])
  pub balanced : (number : ℕ) → number < length s.issues → balance (slice_index_or s.issues number []) ≡ pos 0

-- A table is the sheet that is defined for the records, the hour and the rule; it adds up to zero over all codes and parties;
-- in it the accounts' cells of each shared code add up to the shared amount; and where the weights are not all 0, each such
-- cell is less than one mil from its exact proportion: the cell × the sum of the weights differs from the shared amount ×
-- the account's weight by less than that sum.
pub record IsSheet (r : Records) (hour : ℕ) (parts : Parts) (t : Table) : Type 0 where
  pub defined : (code : Code) (party : ℕ) → cell t code party ≡ sheet parts r hour code party
  pub balanced : total (cell t) ≡ pos 0
  pub whole : (code : Code) → (basis_of code ≢ Own) → sum_over (cell t code) (accounts r) ≡ shared r hour code
  pub near : (code : Code) → 0 < sum (weights (basis_of code) r hour) → (account : ℕ) → 1 ≤ account → account ≤ r.heading.accounts
      → unsigned_abs (cell t code account *ℤ pos (sum (weights (basis_of code) r hour)) -ℤ shared r hour code *ℤ pos (slice_index (weights (basis_of code) r hour) (account - 1)))
      < sum (weights (basis_of code) r hour)

-- Sheets are as defined: for every hour and every fair rule at which the sheet call of a settled or issued day would be
-- accepted now, the table that it gives is the sheet of the history's records.
abbrev pub SheetsAreAsDefined : Summary → Day → Memory → Type 0
SheetsAreAsDefined s day m = has_table day ≡ true → (hour : ℕ) (parts : Parts) → Fair parts → (page filled : Table) (given : Day)
    → (Ok given, filled) ≡ sheet_gives parts day (numbers_of day) (issues_made day) m hour page → IsSheet s.records hour parts filled

-- the notes add up to the cells of a settlement, for every code and party; before the first one there are none
abbrev pub Reach : Settlement → List Note → Type 0
Reach none_yet notes = notes ≡ []
Reach (settled_by parts r) notes = (code : Code) (party : ℕ) → noted notes code party ≡ day_cell parts r code party

abbrev pub WasMade : Settlement → Type 0
WasMade none_yet = ⊥
WasMade (settled_by parts r) = Fair parts

-- Notes reach the cell: for every code and party the notes over all issues add up to the cell that is defined for the records
-- and the rule of the last issue. An issued day has one.
pub record NotesReachTheCell (s : Summary) (day : Day) : Type 0 where
  pub reach : Reach s.last_issue (all_notes s)
  pub one_made : is_issued day ≡ true → WasMade s.last_issue

-- What holds each time a call of a history ends. The book holds the history's records; and the three laws.
pub record Laws (s : Summary) (day : Day) (m : Memory) : Type 0 where
  pub records_stand : m.records ≡ s.records
  pub notes_stand_and_balance : NotesStandAndBalance s day m
  pub sheets_are_as_defined : SheetsAreAsDefined s day m
  pub notes_reach_the_cell : NotesReachTheCell s day

-- the laws at the end of a history, and at the end of each call before
abbrev pub Always : {events : List Event} {day : Day} {m : Memory} → History events day m → Type 0
Always (opens m n bytes d heading e f) = Laws (summary (opened bytes (length m.ledger) heading ∷ [])) (Open d) n
Always (loads m n file d records e f) = Laws (summary (loaded file (length m.ledger) records ∷ [])) (Closed d) n
Always (next {events} {d} {e} {m} {n} {event} h s) = Always h × Laws (summary (event ∷ events)) e n

-- Every history keeps the laws, whatever its calls, and whatever fair rule each settle and each sheet has.
abbrev pub EveryHistoryKeepsTheLaws : Type 0
EveryHistoryKeepsTheLaws = (events : List Event) (day : Day) (m : Memory) (h : History events day m) → Always h

-- The calls determine how each of them ended, and so the answers, the day and all memory.
abbrev pub CallsDetermineHistories : Type 0
CallsDetermineHistories = (events others : List Event) (day other : Day) (m n : Memory) → History events day m → History others other n
    → calls_of events ≡ calls_of others → (events ≡ others) × (day ≡ other) × (m ≡ n)

-- In a history the memory is always the day's.
abbrev pub MemoryStaysSound : Type 0
MemoryStaysSound = (events : List Event) (day : Day) (m : Memory) → History events day m → sound_memory (numbers_of day) (issues_made day) m ≡ true

-- a call that was refused, was refused for another reason than unsound memory
abbrev pub FoundSound : Event → Type 0
FoundSound (opened bytes entries heading) = Unit {0}
FoundSound (loaded file entries records) = Unit {0}
FoundSound (entered bytes item) = Unit {0}
FoundSound (closed bytes) = Unit {0}
FoundSound (corrected reading) = Unit {0}
FoundSound (settled parts) = Unit {0}
FoundSound (sheeted hour parts page) = Unit {0}
FoundSound (issued notes) = Unit {0}
FoundSound (stated number room text) = Unit {0}
FoundSound reopened = Unit {0}
FoundSound (refused call fault) = fault.refusal ≡ UnsoundMemory → ⊥

-- So no call of a history is refused for unsound memory. Each call was the last one of a history once.
abbrev pub NoCallFindsMemoryUnsound : Type 0
NoCallFindsMemoryUnsound = (event : Event) (events : List Event) (day : Day) (m : Memory) → History (event ∷ events) day m → FoundSound event
