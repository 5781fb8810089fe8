-- No call of a history is refused for unsound memory.
use Rattle.std.proofs.Common.{◌≡◌, ℕ, Bool, true, false, cond, Some, Option, ap, arith}
use Rattle.faults.specs.declared.fault.Fault.{Fault}
use Rattle.faults.specs.declared.refusal.Refusal.TheVariants.{UnsoundMemory}
use Rattle.day.specs.Calls.{notes_in, made_with, notes_to_add}
use Rattle.day.specs.Memory.{Memory}
use Rattle.history.specs.Events.{Event, Summary}
use Rattle.history.specs.Histories.{Does, closes, closes_not, corrects, corrects_not, enters, enters_not, issues, issues_not, loads, next, opens, reopens, reopens_not, settles, settles_not, sheets, sheets_not, states, states_not}
use Rattle.history.specs.Laws.{FoundSound, NoCallFindsMemoryUnsound}
use Rattle.history.specs.declared.states.Day.{Day}
use Rattle.history.proofs.Ends.{reopen_reason}
use Rattle.history.proofs.Kept.{Kept, memory_sound}
use Rattle.history.proofs.Outcomes.{was_refused}
use Rattle.history.proofs.Reasons.{another_reason, close_fine, correct_fine, enter_fine, issue_fine, not_unsound, settle_fine, sheet_fine, statement_fine}
use Rattle.history.proofs.Theorem.{kept}

-- what is against a call on sound memory is not the memory
other : (sound : Bool) (o : Option Fault) (f g : Fault) → sound ≡ true → not_unsound o ≡ true → cond sound o (Some g) ≡ Some f → f.refusal ≡ UnsoundMemory → ⊥
other true o f g s h e = another_reason o f h e
other false o f g s h e = let z : ◌≡◌ {A = ℕ} 0 1 = cc in absurd (omega arith)

found_sound : {s : Summary} {d e : Day} {m n : Memory} {v : Event} → Does d m v e n → Kept s d m → FoundSound v
found_sound (enters d e m n bytes item q decoded) k = tt
found_sound (enters_not d r m n bytes q) k = other _ _ r.fault _ (memory_sound k) (enter_fine m.records bytes) (was_refused _ _ _ _ _ _ _ q).0
found_sound (closes d e m n bytes q) k = tt
found_sound (closes_not d r m n bytes q) k = other _ _ r.fault _ (memory_sound k) (close_fine m.records bytes) (was_refused _ _ _ _ _ _ _ q).0
found_sound (corrects d e m n reading q) k = tt
found_sound (corrects_not d r m n reading q) k = other _ _ r.fault _ (memory_sound k) (correct_fine m.records reading) (was_refused _ _ _ _ _ _ _ q).0
found_sound (settles d e m n parts fair q) k = tt
found_sound (settles_not d r m n parts fair q) k = other _ _ r.fault _ (memory_sound k) (settle_fine m.records) (was_refused _ _ _ _ _ _ _ q).0
found_sound (sheets d e m hour parts page filled tabled fair q) k = tt
found_sound (sheets_not d r m hour parts page left tabled fair q) k = other _ _ r.fault _ (memory_sound k) (sheet_fine m.records hour) (was_refused _ _ _ _ _ _ _ q).0
found_sound (issues d e count m n q) k = tt
found_sound (issues_not d r m n q) k = other _ _ r.fault _ (memory_sound k) (issue_fine m.ledger d.numbers.notes (notes_to_add d.numbers m)) (was_refused _ _ _ _ _ _ _ q).0
found_sound (states d e count m number buffer filled q) k = tt
found_sound (states_not d r m number buffer left q) k =
    other _ _ r.fault _ (memory_sound k) (statement_fine d.numbers.heading (notes_in d.numbers m) (made_with d.numbers) number buffer) (was_refused _ _ _ _ _ _ _ q).0
found_sound (reopens d e m n q) k = tt
found_sound (reopens_not d r m n q) k =
    λ e. (let clash = ap (λ (f : Fault). f.refusal) (reopen_reason d r m n (memory_sound k) q) in
    let z : ◌≡◌ {A = ℕ} 0 1 = cc in
    omega arith)

pub never_unsound : NoCallFindsMemoryUnsound
never_unsound v es d m (opens m₀ n bytes d₀ heading q decoded) = tt
never_unsound v es d m (loads m₀ n file d₀ records q whole) = tt
never_unsound v es d m (next h s) = found_sound s (kept h)
