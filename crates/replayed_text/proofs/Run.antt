-- The run that prints a file: load, settle, issue and statement, and how each of them ends.
use Rattle.std.proofs.Common.{◌≡◌, ℕ, ◌+◌, ◌≤◌, Bool, true, false, cond, leb, List, [], ◌∷◌, ◌++◌, length, take, drop, is_some, Some, None, Ok, Err, Option, sym, refl, ap, ◌∙◌, subst, arith}
use lib.ListN.{length-replicate}
use Rattle.std.proofs.lemmas.List.{take_at}
use Rattle.std.proofs.lemmas.Bool.{cond-true, le-leb, leb-true}
use Rattle.std.specs.Option.{ok_or}
use Rattle.faults.specs.Places.{plain}
use Rattle.faults.specs.declared.fault.Fault.{Fault}
use Rattle.faults.specs.declared.refusal.Refusal.TheVariants.{BufferTooShort, LedgerFull, UnsoundMemory}
use Rattle.dayfile.specs.Records.{Records}
use Rattle.codes.specs.Cells.{cell_count}
use Rattle.ledger.proofs.Laws.{appended}
use Rattle.ledger.specs.Issues.{issue_leaves, notes_of}
use Rattle.ledger.specs.Notes.{cleared, no_note}
use Rattle.ledger.specs.declared.note.Note.{Note}
use Rattle.loading.specs.Loading.{file_records, load_leaves}
use Rattle.settlement.specs.Days.{day_cell, settle_refusal}
use Rattle.sharing.specs.Running.{running}
use Rattle.sharing.specs.RunningFair.{running_fair}
use Rattle.statement.specs.Statements.{statement_answer, statement_text}
use Rattle.statement.proofs.Room.{fits_in}
use Rattle.text.specs.Written.{left_if_fits, length_if_fits}
use Rattle.day.specs.Calls.{fault_in, first_numbers, given, issue_gives, load_answer, load_gives, notes_in, notes_to_add, settle_gives, statement_gives, statement_refusal, with_notes}
use Rattle.day.specs.Memory.{Memory, begun_with, memory, sound_memory}
use Rattle.day.specs.States as day_state
use Rattle.day.specs.States.{day_with}
use Rattle.day.specs.Tables.{table_of}
use Rattle.day.proofs.Beginning.{left_by_load}
use Rattle.history.specs.Events.{issued, loaded, refused, settled, settling, stated}
use Rattle.history.specs.Histories.{History, added_notes, issues, loads, next, settles, settles_not, states}
use Rattle.history.specs.declared.states.Day.TheVariants.{Closed, Issued, Settled}
use Rattle.history.proofs.Kept.{Accepted, day_holds, memory_sound, settled_borne}
use Rattle.history.proofs.Theorem.{kept}
use Rattle.day_text.specs.Texts.{first_notes, text_room}
use Rattle.day_text.proofs.First as first

-- a text that fits has a length to answer, and nothing is against it
if_some : (b : Bool) (n : ℕ) → is_some (cond b (Some n) None) ≡ true → b ≡ true
if_some true n e = refl
if_some false n e = let z : ◌≡◌ {A = ℕ} 0 1 = cc in absurd (omega arith)

clear_of : (o : Option ℕ) (f : Fault) → is_some o ≡ true → fault_in (ok_or o f) ≡ None
clear_of None f e = let z : ◌≡◌ {A = ℕ} 0 1 = cc in absurd (omega arith)
clear_of (Some n) f e = refl

module _ (m : Memory) (file : List ℕ) (r : Records) (whole : file_records file ≡ Ok r) where
  -- load

  abbrev pub closed_day : day_state.Closed
  closed_day = day_with (first_numbers r)

  abbrev pub begun : Memory
  begun = begun_with r m.ledger

  loads_so : (Ok closed_day, begun) ≡ load_gives m file
  loads_so =
      sym
      (ap (λ o. (load_answer o, begun_with (load_leaves m.records file) m.ledger)) whole
      ∙ ap (λ x. (Ok closed_day, begun_with x m.ledger)) (left_by_load m.records file r whole))

  pub after_load : History (loaded file (length m.ledger) r ∷ []) (Closed closed_day) begun
  after_load = loads m begun file closed_day r loads_so whole

  -- settle

  abbrev pub settled_day : day_state.Settled
  settled_day = day_with (first_numbers r)

  abbrev pub filled : Memory
  filled = memory r (table_of (day_cell running r)) (cleared m.ledger)

  settles_by : (o : Option Fault) → settle_refusal r ≡ o → given o closed_day begun settled_day filled ≡ settle_gives running closed_day begun
  settles_by o p =
      ap (λ x. given x closed_day begun settled_day filled)
      (sym (cond-true (sound_memory (first_numbers r) 0 begun) (settle_refusal r) (Some (plain UnsoundMemory)) (memory_sound (kept after_load)) ∙ p))

  pub after_refusal : (fault : Fault) → settle_refusal r ≡ Some fault → History (refused (settling running) fault ∷ loaded file (length m.ledger) r ∷ []) (Closed closed_day) begun
  after_refusal fault p = next after_load (settles_not closed_day (record { day = closed_day; fault = fault }) begun begun running running_fair (settles_by (Some fault) p))

  module _ (none : settle_refusal r ≡ None) (room : cell_count ≤ length m.ledger) where
    pub after_settle : History (settled running ∷ loaded file (length m.ledger) r ∷ []) (Settled settled_day) filled
    after_settle = next after_load (settles closed_day settled_day begun filled running running_fair (settles_by None none))

    -- issue

    abbrev pub new : List Note
    new = notes_to_add (first_numbers r) filled

    -- with no earlier notes, a note for each cell of the day that is not 0
    pub new_is : new ≡ first_notes r
    new_is =
        let accepted : Accepted running r = record { fair = running_fair; sound = (kept after_settle).sound; borne = settled_borne r none } in
        first.first_notes (cleared m.ledger) 0 filled.table ∙ ap (notes_of 0) (λ i code party. day_holds running r accepted code party i)

    few : length new ≤ cell_count
    few = omega (arith, ap length new_is, first.notes_few 0 (day_cell running r))

    fits : 0 + length new ≤ length (cleared m.ledger)
    fits = omega (arith, few, length-replicate (length m.ledger) no_note)

    abbrev pub issued_day : day_state.Issued
    issued_day = day_with (with_notes (first_numbers r) (length new))

    abbrev pub noted : Memory
    noted = memory r filled.table (issue_leaves (cleared m.ledger) 0 new)

    issues_so : (Ok (issued_day, length new), noted) ≡ issue_gives settled_day filled
    issues_so =
        ap (λ o. given o settled_day filled (issued_day, length new) noted)
        (sym
        (cond-true (sound_memory (first_numbers r) 0 filled) _ (Some (plain UnsoundMemory)) (memory_sound (kept after_settle))
        ∙ ap fault_in (cond-true (leb (0 + length new) (length (cleared m.ledger))) (Ok (length new)) (Err (plain LedgerFull)) (le-leb (0 + length new) (length (cleared m.ledger)) fits))))

    pub after_issue : History (issued (added_notes 0 (length new) noted) ∷ settled running ∷ loaded file (length m.ledger) r ∷ []) (Issued issued_day) noted
    after_issue = next after_settle (issues settled_day issued_day (length new) filled noted issues_so)

    -- statement

    abbrev pub text : List ℕ
    text = statement_text r.heading (first_notes r) 0

    notes_are : notes_in issued_day.numbers noted ≡ first_notes r
    notes_are = appended (cleared m.ledger) new 0 fits ∙ new_is

    module _ (buffer : List ℕ) (wide : text_room ≤ length buffer) where
      some_length : is_some (length_if_fits text buffer) ≡ true
      some_length =
          subst (λ (notes : List Note). is_some (length_if_fits (statement_text r.heading notes 0) buffer) ≡ true) notes_are
          (fits_in r.heading noted.ledger (0 + length new) 1 0 buffer (omega arith) (omega arith) (kept after_issue).notes (omega (arith, few)))

      pub text_fits : length text ≤ length buffer
      text_fits = leb-true (length text) (length buffer) (if_some (leb (length text) (length buffer)) (length text) some_length)

      written : left_if_fits text buffer ≡ text ++ drop (length text) buffer
      written = cond-true (leb (length text) (length buffer)) (text ++ drop (length text) buffer) buffer (le-leb (length text) (length buffer) text_fits)

      states_so : (Ok (issued_day, length text), left_if_fits text buffer) ≡ statement_gives issued_day noted 0 buffer
      states_so =
          ap (λ o. given o issued_day buffer (issued_day, length text) (left_if_fits text buffer))
          (sym
          (cond-true (sound_memory issued_day.numbers 1 noted) _ (Some (plain UnsoundMemory)) (memory_sound (kept after_issue))
          ∙ ap (λ notes. fault_in (statement_answer r.heading notes 1 0 buffer)) notes_are
          ∙ clear_of (length_if_fits text buffer) (plain BufferTooShort) some_length))
          ∙ ap (λ notes. given (statement_refusal issued_day noted 0 buffer) issued_day buffer (issued_day, length (statement_text r.heading notes 0)) (left_if_fits (statement_text r.heading notes 0) buffer)) (sym notes_are)

      front : take (length text) (left_if_fits text buffer) ≡ text
      front = ap (take (length text)) written ∙ take_at text (drop (length text) buffer) (length text) refl

      pub after_statement : History (stated 0 (length buffer) text ∷ issued (added_notes 0 (length new) noted) ∷ settled running ∷ loaded file (length m.ledger) r ∷ []) (Issued issued_day) noted
      after_statement =
          subst (λ (t : List ℕ). History (stated 0 (length buffer) t ∷ issued (added_notes 0 (length new) noted) ∷ settled running ∷ loaded file (length m.ledger) r ∷ []) (Issued issued_day) noted) front
          (next after_issue (states issued_day issued_day (length text) noted 0 buffer (left_if_fits text buffer) states_so))
