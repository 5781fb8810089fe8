-- Two histories that go through the same calls as far as they can end alike.
use Rattle.std.proofs.Common.{◌≡◌, ℕ, ◌≤◌, true, false, List, [], ◌∷◌, ◌++◌, length, take, drop, sym, refl, ap, ◌∙◌, subst, inl, inr, arith, length-append}
use Rattle.std.proofs.lemmas.List.{append_assoc, drop_at, map-append, take-append-drop, take_at}
use Rattle.std.proofs.lemmas.Bool.{cases_lt}
use Rattle.day.specs.Calls.{Parts}
use Rattle.day.specs.Memory.{Memory}
use Rattle.history.specs.Events.{Call, Event, call_of, calls_of, takes}
use Rattle.history.specs.Histories.{Does, History, closes, closes_not, corrects, corrects_not, enters, enters_not, issues, issues_not, loads, next, opens, reopens, reopens_not, settles, settles_not, sheets, sheets_not, states, states_not}
use Rattle.history.specs.Replays.{Stopped, call_in, calls_in}
use Rattle.history.specs.declared.states.Day.{Day}
use Rattle.history.specs.declared.steps.Step.{Step}
use Rattle.history.proofs.Determined.{determined}

-- a call that was made is one that the state of the day takes
does_takes : {d e : Day} {m n : Memory} {v : Event} → Does d m v e n → takes d (call_of v) ≡ true
does_takes (enters d e m n bytes item q decoded) = refl
does_takes (enters_not d r m n bytes q) = refl
does_takes (closes d e m n bytes q) = refl
does_takes (closes_not d r m n bytes q) = refl
does_takes (corrects d e m n reading q) = refl
does_takes (corrects_not d r m n reading q) = refl
does_takes (settles d e m n parts fair q) = refl
does_takes (settles_not d r m n parts fair q) = refl
does_takes (sheets d e m hour parts page filled tabled fair q) = tabled
does_takes (sheets_not d r m hour parts page left tabled fair q) = tabled
does_takes (issues d e count m n q) = refl
does_takes (issues_not d r m n q) = refl
does_takes (states d e count m number buffer filled q) = refl
does_takes (states_not d r m number buffer left q) = refl
does_takes (reopens d e m n q) = refl
does_takes (reopens_not d r m n q) = refl

pub some_call : {events : List Event} {d : Day} {m : Memory} → History events d m → 1 ≤ length (calls_of events)
some_call (opens m n bytes d heading q decoded) = omega arith
some_call (loads m n file d r q whole) = omega arith
some_call (next h s) = simp length-append (omega arith)

-- two ways to part a list at one place
same_parts : {X : Type 0} (a b c d : List X) → length a ≡ length c → a ++ b ≡ c ++ d → (a ≡ c) × (b ≡ d)
same_parts a b c d l e = (
  sym (take_at a b (length a) refl) ∙ ap (take (length a)) e ∙ take_at c d (length a) (sym l),
  sym (drop_at a b (length a) refl) ∙ ap (drop (length a)) e ∙ drop_at c d (length a) (sym l),
)

-- a history that stopped was not led on by another through the same calls
not_longer : {es fs : List Event} {d e : Day} {m n : Memory} (rest more : List Call) → History es d m → Stopped rest d → History fs e n → calls_of es ++ rest ≡ calls_of fs ++ more
    → length (calls_of fs) ≤ length (calls_of es)
not_longer rest more h stopped (opens m n bytes d heading q decoded) same = some_call h
not_longer rest more h stopped (loads m n file d r q whole) same = some_call h
not_longer {es} {fs} {d} {e} {m} {n} rest more h stopped (next {events} {d = d₁} {m = m₁} {event = v} g s) same =
    let parted : calls_of es ++ rest ≡ calls_of events ++ (call_of v ∷ more) = same ∙ append_assoc (calls_of events) (call_of v ∷ []) more in
    let shorter = not_longer rest (call_of v ∷ more) h stopped g parted in
    let long = length-append (calls_of events) (call_of v ∷ []) in
    elim (cases_lt (length (calls_of events)) (length (calls_of es))) [
      | inl less ↦ omega arith
      | inr least ↦ (
          let both = same_parts (calls_of es) rest (calls_of events) (call_of v ∷ more) (omega arith) parted in
          let out : takes d (call_of v) ≡ false = subst (λ (x : List Call). Stopped x d) both.1 stopped in
          let day = (determined es events d d₁ m m₁ h g both.0).1 in
          let in_it : takes d (call_of v) ≡ true = ap (λ x. takes x (call_of v)) day ∙ does_takes s in
          let z : ◌≡◌ {A = ℕ} 0 1 = cc in
          absurd (omega arith))
    ]

pub same_end : {es fs : List Event} {d e : Day} {m n : Memory} (rest more : List Call) → History es d m → Stopped rest d → History fs e n → Stopped more e → calls_of es ++ rest ≡ calls_of fs ++ more
    → (es ≡ fs) × (d ≡ e) × (m ≡ n)
same_end {es} {fs} {d} {e} {m} {n} rest more h stopped g ended same =
    let there = not_longer rest more h stopped g same in
    let back = not_longer more rest g ended h (sym same) in
    determined es fs d e m n h g (same_parts (calls_of es) rest (calls_of fs) more (omega arith) same).0

-- the steps that were made and those that were not are all the steps
pub all_calls : {R : Type 0} (parts : R → Parts) (room : ℕ) (steps : List (Step R)) (i : ℕ) → calls_in parts room (take i steps) ++ calls_in parts room (drop i steps) ≡ calls_in parts room steps
all_calls parts room steps i = sym (map-append (call_in parts room) (take i steps) (drop i steps)) ∙ ap (calls_in parts room) (take-append-drop i steps)
