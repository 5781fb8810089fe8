-- The steps that were made, one after the other.
use Rattle.std.proofs.Common.{◌≡◌, ℕ, ◌+◌, ◌<◌, ◌≤◌, false, List, [], ◌∷◌, ◌++◌, length, get_or, take, drop, Ok, Err, Option, sym, refl, ap, ◌∙◌, subst, Bor}
use Rattle.std.proofs.lemmas.List.{drop_all, drop_more, map_more}
use Rattle.faults.specs.declared.fault.Fault.{Fault}
use Rattle.codes.specs.declared.table.Table.{Table}
use Rattle.day.specs.Calls.{Parts, given}
use Rattle.day.specs.Memory.{Memory}
use Rattle.day.specs.States.{Open}
use Rattle.day.specs.declared.refused.Refused.{Refused}
use Rattle.history.specs.Events.{Answer, Call, Event, Lent, answer_of, answers_of, call_of, calls_of, lent_after, lent_in, takes}
use Rattle.history.specs.Histories.{Does, History, next}
use Rattle.history.specs.Replays.{RanOn, Replayed, Stepped, Stopped, call_in, calls_in, first_call}
use Rattle.history.specs.declared.states.Day.{Day}
use Rattle.history.specs.declared.steps.Outcome.TheVariants.{Done}
use Rattle.history.specs.declared.steps.Begin.{Begin}
use Rattle.history.specs.declared.states.Day.TheVariants.{Open as DayOpen}
use Rattle.history.specs.declared.steps.Step.{Step}
use Rattle.history.specs.declared.steps.Step.TheVariants.{Close, Correct, Enter, Issue, Reopen, Settle, Sheet, Statement}
use Rattle.history.proofs.Outcomes.{was_refused, went_well}
use Rattle.history.proofs.Theorem.{always}

-- a call that was made is a step, and after any history the laws hold
pub stepped : {d e : Day} {m n : Memory} {v : Event} (call : Call) (answer : Answer) (before after : Lent) → Does d m v e n → call_of v ≡ call → answer_of v ≡ answer → lent_after v before ≡ after
    → Stepped call answer d m before e n after
stepped {d} {e} {m} {n} {v} call answer before after does made answered left =
    record { event = v; made = made; answered = answered; left = left; does = does; lawful = λ events history. always (next history does) }

pub replayed : {events : List Event} {d : Day} {m : Memory} (calls : List Call) (answers : List Answer) (before after : Lent) → calls_of events ≡ calls → answers_of events ≡ answers → lent_in events before ≡ after → History events d m
    → Replayed calls answers d m before after
replayed {events} calls answers before after made answered left history =
    record { events = events; made = made; answered = answered; left = left; history = history; lawful = always history }

-- the same day, memory, page and buffer
replayed_at : {calls : List Call} {answers : List Answer} {d e : Day} {m n : Memory} {before now after : Lent} → e ≡ d → n ≡ m → after ≡ now → Replayed calls answers d m before now → Replayed calls answers e n before after
replayed_at {calls} {answers} {d} {e} {m} {n} {before} {now} {after} p q l r =
    subst (λ (x : Lent). Replayed calls answers e n before x) (sym l)
    (subst (λ (x : Memory). Replayed calls answers e x before now) (sym q)
    (subst (λ (x : Day). Replayed calls answers x m before now) (sym p) r))

-- a sheet's answer on a settled or an issued day, as one on a day
module _ {D : Type 0} (wrap : D → Day) (o : Option Fault) (d : D) (page filled : Table) where
  pub as_day : (e : D) (left : Table) → (Ok e, left) ≡ given o d page d filled → (Ok (wrap e), left) ≡ given o (wrap d) page (wrap d) filled
  as_day e left q = go o q
    where
      go : (o : Option Fault) → (Ok e, left) ≡ given o d page d filled → (Ok (wrap e), left) ≡ given o (wrap d) page (wrap d) filled
      go o q =
          let went = went_well o d page d filled e left q in
          rw (went.0, went.1, went.2) refl

  pub as_refused : (r : Refused D) (left : Table) → (Err r, left) ≡ given o d page d filled → (Err (record { day = wrap r.day; fault = r.fault }), left) ≡ given o (wrap d) page (wrap d) filled
  as_refused r left q =
      let went = was_refused o d page d filled r left q in
      rw (went.0, went.1, went.2) refl

  -- a refused sheet leaves the page
  pub page_left : (r : Refused D) (left : Table) → (Err r, left) ≡ given o d page d filled → page ≡ left
  page_left r left q = sym (was_refused o d page d filled r left q).2

-- one step more
module _ {R : Type 0} (parts : R → Parts) (room : ℕ) where
  pub calls_more : (steps : List (Step R)) (first : Call) (events : List Event) (v : Event) (i : ℕ) (x : Step R) → calls_of events ≡ first ∷ calls_in parts room (take i steps) → call_of v ≡ call_in parts room x
      → i < length steps → x ≡ get_or steps i x → calls_of (v ∷ events) ≡ first ∷ calls_in parts room (take (i + 1) steps)
  calls_more steps first events v i x before made below is =
      let more = map_more (call_in parts room) steps i x below ∙ ap (λ y. calls_in parts room (take i steps) ++ (call_in parts room y ∷ [])) (sym is) in
      ap (λ l. l ++ (call_of v ∷ [])) before ∙ ap (λ c. (first ∷ calls_in parts room (take i steps)) ++ (c ∷ [])) made ∙ ap (λ l. first ∷ l) (sym more)

  pub stops : (steps : List (Step R)) (i : ℕ) (x : Step R) (d : Day) → i < length steps → x ≡ get_or steps i x → takes d (call_in parts room x) ≡ false → Stopped (calls_in parts room (drop i steps)) d
  stops steps i x d below is out = rw (drop_more steps i x below) (ap (λ y. takes d (call_in parts room y)) (sym is) ∙ out)

  pub ends : (steps : List (Step R)) (i : ℕ) (d : Day) → length steps ≤ i → Stopped (calls_in parts room (drop i steps)) d
  ends steps i d past = rw (drop_all i steps past) tt

  -- one step more is one call more
  pub step_more : (steps : List (Step R)) (first : Call) (done : Answer) (answers : List Answer) (i : ℕ) (x : Step R) (a : Answer) (d e : Day) (m n : Memory) (before now after : Lent) (lent-room : ℕ)
      → Replayed (first ∷ calls_in parts room (take i steps)) (done ∷ answers) d m before now → Stepped (call_in parts lent-room x) a d m now e n after → lent-room ≡ room → i < length steps → x ≡ get_or steps i x
      → Replayed (first ∷ calls_in parts room (take (i + 1) steps)) (done ∷ (answers ++ (a ∷ []))) e n before after
  step_more steps first done answers i x a d e m n before now after lent-room r s same below is =
      replayed _ _ before after
      (calls_more steps first r.events s.event i x r.made (s.made ∙ ap (λ k. call_in parts k x) same) below is)
      (ap (λ l. l ++ (answer_of s.event ∷ [])) r.answered ∙ ap (λ y. (done ∷ answers) ++ (y ∷ [])) s.answered)
      (ap (lent_after s.event) r.left ∙ s.left)
      (next r.history s.does)

  -- the end of a replay
  pub ran_on : (start : Begin) (steps : List (Step R)) (m : Memory) (before : Lent) (d e : Day) (answers : List Answer) (n k : Memory) (now after : Lent) (entries i : ℕ) → room ≡ length before.buffer → entries ≡ length m.ledger → i ≡ length answers
      → Replayed (first_call start entries ∷ calls_in parts room (take i steps)) (Ok Done ∷ answers) d n before now → e ≡ d → k ≡ n → after ≡ now → Stopped (calls_in parts room (drop i steps)) d
      → RanOn parts start steps m before e answers k after
  ran_on start steps m before d e answers n k now after entries i wide size many r same-day same_memory same-lent stopped =
      let calls : first_call start entries ∷ calls_in parts room (take i steps) ≡ first_call start (length m.ledger) ∷ calls_in parts (length before.buffer) (take (length answers) steps) =
      ap (λ x. first_call start x ∷ calls_in parts room (take i steps)) size ∙ ap (λ x. first_call start (length m.ledger) ∷ calls_in parts x (take i steps)) wide
      ∙ ap (λ x. first_call start (length m.ledger) ∷ calls_in parts (length before.buffer) (take x steps)) many in
      let history : Replayed (first_call start (length m.ledger) ∷ calls_in parts (length before.buffer) (take (length answers) steps)) (Ok Done ∷ answers) d n before now =
      subst (λ (cs : List Call). Replayed cs (Ok Done ∷ answers) d n before now) calls r in
      record {
        history = replayed_at same-day same_memory same-lent history;
        stopped = subst (λ (x : Day). Stopped (calls_in parts (length before.buffer) (drop (length answers) steps)) x) (sym same-day)
            (subst (λ (x : ℕ). Stopped (calls_in parts (length before.buffer) (drop x steps)) d) many
            (subst (λ (x : ℕ). Stopped (calls_in parts x (drop i steps)) d) wide stopped));
      }

  -- an open day takes no step but the two
  pub open_takes_no_other : (day : Day) (d : Open) (x : Step R) → day ≡ DayOpen d → ((bytes : Bor (List ℕ)) → x ≡ Enter bytes → ⊥) → ((bytes : Bor (List ℕ)) → x ≡ Close bytes → ⊥)
      → takes day (call_in parts room x) ≡ false
  open_takes_no_other day d x is no-enter no-close = ap (λ y. takes y (call_in parts room x)) is ∙ go x no-enter no-close
    where
      go : (x : Step R) → ((bytes : Bor (List ℕ)) → x ≡ Enter bytes → ⊥) → ((bytes : Bor (List ℕ)) → x ≡ Close bytes → ⊥) → takes (DayOpen d) (call_in parts room x) ≡ false
      go (Enter bytes) one two = absurd (one bytes refl)
      go (Close bytes) one two = absurd (two bytes refl)
      go (Correct reading) one two = refl
      go (Settle rule) one two = refl
      go (Sheet hour rule) one two = refl
      go Issue one two = refl
      go (Statement number) one two = refl
      go Reopen one two = refl
