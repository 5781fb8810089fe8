-- What the calls that run a history promise.
use Rattle.std.specs.Prelude.{◌≡◌, ℕ, false, List, [], ◌∷◌, map, length, take, drop, Ok, Err, vec_items, Result}
use Rattle.faults.specs.declared.fault.Fault.{Fault}
use Rattle.day.specs.Calls.{Parts, load_gives, open_gives}
use Rattle.day.specs.Memory.{Memory}
use Rattle.history.specs.Events.{Answer, Call, Event, Lent, answer_of, answers_of, call_of, calls_of, closing, correcting, entering, issuing, lent_after, lent_in, loading, opening, reopening, settling, sheeting, stating, takes}
use Rattle.history.specs.Histories.{Does, History, next}
use Rattle.history.specs.Laws.{Always}
use Rattle.history.specs.declared.states.Day.{Day}
use Rattle.history.specs.declared.steps.NotBegun.{NotBegun}
use Rattle.history.specs.declared.steps.NotBegun.TheVariants.{NoMemory, Refused}
use Rattle.history.specs.declared.steps.NotTaken.{NotTaken}
use Rattle.history.specs.declared.steps.Outcome.TheVariants.{Done}
use Rattle.history.specs.declared.steps.Replay.{Replay}
use Rattle.history.specs.declared.steps.Begin.{Begin}
use Rattle.history.specs.declared.steps.Begin.TheVariants.{Load, Open}
use Rattle.history.specs.declared.steps.Step.{Step}
use Rattle.history.specs.declared.steps.Step.TheVariants.{Close, Correct, Enter, Issue, Reopen, Settle, Sheet, Statement}

-- the call that a history begins with, into a ledger of so many entries
abbrev pub first_call : Begin → ℕ → Call
first_call (Open bytes) entries = opening bytes.now entries
first_call (Load file) entries = loading file.now entries

-- how a beginning is refused, and what memory then holds
abbrev pub RefusedAt : Begin → Memory → Fault → Memory → Type 0
RefusedAt (Open bytes) m fault n = (Err fault, n) ≡ open_gives m bytes.now
RefusedAt (Load file) m fault n = (Err fault, n) ≡ load_gives m file.now

-- the call that a step is, under the meaning that its rule has; statements have a buffer of so many bytes
module _ {R : Type 0} (parts : R → Parts) (room : ℕ) where
  abbrev pub call_in : Step R → Call
  call_in (Enter bytes) = entering bytes.now
  call_in (Close bytes) = closing bytes.now
  call_in (Correct reading) = correcting reading
  call_in (Settle rule) = settling (parts rule.now)
  call_in (Sheet hour rule) = sheeting hour (parts rule.now)
  call_in Issue = issuing
  call_in (Statement number) = stating number room
  call_in Reopen = reopening

  abbrev pub calls_in : List (Step R) → List Call
  calls_in steps = map call_in steps

-- A history of these calls, with these answers, ends in exactly this day and memory, and leaves this of the page and the
-- buffer; the laws hold each time one of its calls ends.
pub record Replayed (calls : List Call) (answers : List Answer) (day : Day) (m : Memory) (before after : Lent) : Type 0 where
  pub events : List Event
  pub made : calls_of events ≡ calls
  pub answered : answers_of events ≡ answers
  pub left : lent_in events before ≡ after
  pub history : History events day m
  pub lawful : Always history

-- One call with this answer takes a day and memory to another. After any history that led to the first two, the laws hold
-- each time a call of it ends, this one too.
pub record Stepped (call : Call) (answer : Answer) (day : Day) (m : Memory) (before : Lent) (next-day : Day) (n : Memory) (after : Lent) : Type 0 where
  pub event : Event
  pub made : call_of event ≡ call
  pub answered : answer_of event ≡ answer
  pub left : lent_after event before ≡ after
  pub does : Does day m event next-day n
  pub lawful : (events : List Event) (history : History events day m) → Always (next history does)

-- a step was made; or the state of the day does not take it, and all is as it was
abbrev pub Advanced : Call → Day → Memory → Lent → Result (Day × Answer) NotTaken → Memory → Lent → Type 0
Advanced call day m before (Ok made) n after = Stepped call made.1 day m before made.0 n after
Advanced call day m before (Err not_taken) n after = (not_taken.0 ≡ day) × (n ≡ m) × (after ≡ before) × (takes day call ≡ false)

-- the calls that were not made begin with one that the state of the day does not take
abbrev pub Stopped : List Call → Day → Type 0
Stopped [] day = Unit {0}
Stopped (call ∷ calls) day = takes day call ≡ false

-- a history begins, and leaves the page and the buffer alone; or its beginning is refused
abbrev pub Begun : Begin → Memory → Result Day Fault → Memory → Type 0
Begun start m (Ok day) n = (l : Lent) → Replayed (first_call start (length m.ledger) ∷ []) (Ok Done ∷ []) day n l l
Begun start m (Err fault) n = RefusedAt start m fault n

module _ {R : Type 0} (parts : R → Parts) (start : Begin) (steps : List (Step R)) (m : Memory) (before : Lent) where
  -- The steps that were made, as many as there are answers, are a history that ends in exactly this day and memory, and the
  -- laws held each time one of them ended. The first step that was not made is one that the state of the day does not take.
  pub record RanOn (day : Day) (answers : List Answer) (n : Memory) (after : Lent) : Type 0 where
    pub history : Replayed (first_call start (length m.ledger) ∷ calls_in parts (length before.buffer) (take (length answers) steps)) (Ok Done ∷ answers) day n before after
    pub stopped : Stopped (calls_in parts (length before.buffer) (drop (length answers) steps)) day

  -- what a replay comes to: a history, or a beginning that is refused, or want of memory before anything was done
  abbrev pub Ran : Result Replay NotBegun → Memory → Lent → Type 0
  Ran (Ok out) n after = RanOn out.day (vec_items out.answers) n after
  Ran (Err (Refused fault)) n after = RefusedAt start m fault n × (after ≡ before)
  Ran (Err (NoMemory e)) n after = (n ≡ m) × (after ≡ before)
