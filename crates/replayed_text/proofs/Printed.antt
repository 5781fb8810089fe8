-- The text of a day, by how its run ends.
use Rattle.std.proofs.Common.{◌≡◌, ℕ, ◌≤◌, leb, List, [], ◌∷◌, ◌++◌, length, get_or, drop, Some, None, Ok, Err, Option, Result, sym, refl, ap, ◌∙◌, subst, arith, Bor}
use Rattle.std.proofs.lemmas.List.{get_or_append_left}
use Rattle.std.proofs.lemmas.Bool.{cond-true, le-leb}
use Rattle.faults.specs.declared.fault.Fault.{Fault}
use Rattle.dayfile.specs.Records.{Records}
use Rattle.codes.specs.Cells.{cell_count}
use Rattle.loading.specs.Loading.{file_records}
use Rattle.settlement.specs.Days.{settle_refusal}
use Rattle.sharing.specs.Running.{running}
use Rattle.sharing.specs.declared.running.Running.{Running}
use Rattle.text.specs.Lines.{refused_text}
use Rattle.text.specs.Written.{left_if_fits}
use Rattle.day.specs.Calls.{Parts, load_answer}
use Rattle.day.specs.Memory.{Memory}
use Rattle.day.specs.States as day_state
use Rattle.history.specs.Events.{Answer, Call, Event, Lent, answers_of, calls_of, issuing, lent_in, loading, reopening, settling, stating}
use Rattle.history.specs.Histories.{History, loads, next, opens}
use Rattle.history.specs.Replays.{Ran, RanOn, RefusedAt, calls_in}
use Rattle.history.specs.declared.states.Day.{Day}
use Rattle.history.specs.declared.steps.Outcome.TheVariants.{Added, Done, Written}
use Rattle.history.specs.declared.steps.Begin.TheVariants.{Load}
use Rattle.history.specs.declared.steps.NotBegun.{NotBegun}
use Rattle.history.specs.declared.steps.NotBegun.TheVariants.{Refused}
use Rattle.history.specs.declared.steps.Step.{Step}
use Rattle.history.specs.declared.steps.Step.TheVariants.{Issue, Settle, Statement}
use Rattle.history.proofs.Outcomes.{ok_not_err}
use Rattle.replayed_text.specs.Answered.{LineFits, answered_length, answered_text, last_answer}
use Rattle.day_text.specs.Texts.{loaded_text, printed_text, settled_text, text_room}
use Rattle.replayed_text.proofs.Run.{after_refusal, after_statement, text, text_fits}
use Rattle.replayed_text.proofs.Runs.{all_calls, same_end, some_call}

-- what the last answer and the buffer come to
pub record ComesTo (text buffer : List ℕ) (answers : List Answer) (left : List ℕ) : Type 0 where
  pub long : answered_length (last_answer answers) ≡ length text
  pub holds : answered_text (last_answer answers) left ≡ left_if_fits text buffer
  pub within : LineFits (last_answer answers) left → length text ≤ length buffer

comes_to_line : (fault : Fault) (text buffer : List ℕ) (answers : List Answer) (left : List ℕ) → text ≡ refused_text fault → answers ≡ Err fault ∷ [] → left ≡ buffer → ComesTo text buffer answers left
comes_to_line fault text buffer answers left is answered same =
    rw (is, answered, same) (record { long = refl; holds = refl; within = λ fits. fits })

comes_to_text : (text buffer : List ℕ) (count : ℕ) (answers : List Answer) (left : List ℕ) → length text ≤ length buffer → answers ≡ Ok Done ∷ Ok (Added count) ∷ Ok (Written (length text)) ∷ [] → left ≡ text ++ drop (length text) buffer → ComesTo text buffer answers left
comes_to_text text buffer count answers left fits answered is =
    rw (answered, is)
    (record {
      long = refl;
      holds = sym (cond-true (leb (length text) (length buffer)) (text ++ drop (length text) buffer) buffer (le-leb (length text) (length buffer) fits));
      within = λ line. fits;
    })

-- a history that began with a load has loaded the file
loaded_whole : {events : List Event} {d : Day} {m : Memory} (file : List ℕ) (entries : ℕ) → History events d m → get_or (calls_of events) 0 reopening ≡ loading file entries → (r : Records) × (file_records file ≡ Ok r)
loaded_whole file entries (opens m n bytes d heading q decoded) e = let z : ◌≡◌ {A = ℕ} 0 1 = cc in absurd (omega arith)
loaded_whole file entries (loads m n old d r q whole) e =
    let same : file ≡ old = cc in
    (r, ap file_records same ∙ whole)
loaded_whole file entries (next {events} h s) e = loaded_whole file entries h (sym (get_or_append_left (calls_of events) _ reopening 0 (some_call h)) ∙ e)

abbrev Loading : Type 0
Loading = Result day_state.Closed Fault × Memory

not_loaded : (o : Result Records Fault) (fault : Fault) → ◌≡◌ {A = Result day_state.Closed Fault} (Err fault) (load_answer o) → o ≡ Err fault
not_loaded (Ok r) fault e = ok_not_err (sym e)
not_loaded (Err f) fault e = cc

-- the meaning of the rule
abbrev parts : Running → Parts
parts rule = running

-- a load that is refused leaves the line of its refusal to print
refused_load : (file : Bor (List ℕ)) (m n : Memory) (fault : Fault) → RefusedAt (Load file) m fault n → printed_text file.now ≡ refused_text fault
refused_load file m n fault q = ap loaded_text (not_loaded (file_records file.now) fault (ap (λ (z : Loading). z.0) q))

pub run_refused : (steps : List (Step Running)) (file : Bor (List ℕ)) (m n : Memory) (before after : Lent) (why : NotBegun) (fault : Fault) → why ≡ Refused fault
    → Ran parts (Load file) steps m before (Err why) n after → (printed_text file.now ≡ refused_text fault) × (after.buffer ≡ before.buffer)
run_refused steps file m n before after why fault is ran =
    let so : Ran parts (Load file) steps m before (Err (Refused fault)) n after = subst (λ (w : NotBegun). Ran parts (Load file) steps m before (Err w) n after) is ran in
    (refused_load file m n fault so.0, ap (λ (l : Lent). l.buffer) so.1)

module _ (rule : Bor Running) (steps : List (Step Running)) (are : steps ≡ Settle rule ∷ Issue ∷ Statement 0 ∷ [])
    (file : Bor (List ℕ)) (m : Memory) (before : Lent) (room : cell_count ≤ length m.ledger) (wide : text_room ≤ length before.buffer) where
  abbrev wanted : List Call
  wanted = settling running ∷ issuing ∷ stating 0 (length before.buffer) ∷ []

  calls_are : calls_in parts (length before.buffer) steps ≡ wanted
  calls_are = ap (calls_in parts (length before.buffer)) are

  module _ (day : Day) (answers : List Answer) (n : Memory) (after : Lent) (ran : RanOn parts (Load file) steps m before day answers n after) where
    abbrev left : List Call
    left = calls_in parts (length before.buffer) (drop (length answers) steps)

    all : loading file.now (length m.ledger) ∷ wanted ≡ calls_of ran.history.events ++ left
    all =
        sym
        (ap (λ cs. cs ++ left) ran.history.made
        ∙ ap (λ cs. loading file.now (length m.ledger) ∷ cs) (all_calls parts (length before.buffer) steps (length answers) ∙ calls_are))

    answered : {events : List Event} → events ≡ ran.history.events → answers_of events ≡ Ok Done ∷ answers
    answered e = ap answers_of e ∙ ran.history.answered

    buffer_is : {events : List Event} → events ≡ ran.history.events → after.buffer ≡ (lent_in events before).buffer
    buffer_is e = sym (ap (λ es. (lent_in es before).buffer) e ∙ ap (λ (l : Lent). l.buffer) ran.history.left)

    by_refusal : (r : Records) → file_records file.now ≡ Ok r → (o : Option Fault) → settle_refusal r ≡ o → ComesTo (printed_text file.now) before.buffer answers after.buffer
    by_refusal r whole (Some fault) p =
        let same = (same_end (issuing ∷ stating 0 (length before.buffer) ∷ []) left (after_refusal m file.now r whole fault p) refl ran.history.history ran.stopped all).0 in
        comes_to_line fault (printed_text file.now) before.buffer answers after.buffer (ap loaded_text whole ∙ ap (settled_text r) p) (sym (ap (drop 1) (answered same))) (buffer_is same)
    by_refusal r whole None p =
        let same = (same_end [] left (after_statement m file.now r whole p room before.buffer wide) tt ran.history.history ran.stopped all).0 in
        let is : text m file.now r whole p room ≡ printed_text file.now = sym (ap loaded_text whole ∙ ap (settled_text r) p) in
        subst (λ (t : List ℕ). ComesTo t before.buffer answers after.buffer) is
        (comes_to_text (text m file.now r whole p room) before.buffer _ answers after.buffer (text_fits m file.now r whole p room before.buffer wide) (sym (ap (drop 1) (answered same))) (buffer_is same))

    pub run_ends : ComesTo (printed_text file.now) before.buffer answers after.buffer
    run_ends =
        let begun = loaded_whole file.now (length m.ledger) ran.history.history (ap (λ cs. get_or cs 0 reopening) ran.history.made) in
        by_refusal begun.0 begun.1 (settle_refusal begun.0) refl
