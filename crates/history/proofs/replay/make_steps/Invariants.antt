use Rattle.std.proofs.Common.{◌≡◌, ◌≤◌, ◌∷◌, Ok, length, take, vec_items, vec_len, vec_capacity}
use Rattle.book.specs.Books.{held}
use Rattle.day.specs.Memory.{memory}
use Rattle.history.specs.Events.{lent}
use Rattle.history.specs.Replays.{Replayed, calls_in, first_call}
use Rattle.history.specs.declared.steps.Outcome.TheVariants.{Done}
use Rattle.history.proofs.replay.make_steps.Given as goal

-- the steps so far, with their answers, are a history
abbrev pub invariant-loop-step : goal.invariant-loop-step
invariant-loop-step g l =
    let parts = g.R.Sharing.parts in
    (vec_len l.answers ≡ l.step-index) × (length l.steps ≤ vec_capacity l.answers)
    × Replayed (first_call l.start (length l.initial.ledger) ∷ calls_in parts (length l.initial.buffer) (take l.step-index l.steps))
    (Ok Done ∷ vec_items l.answers) l.day (memory (held l.book) l.table l.ledger) (lent l.initial.page l.initial.buffer) (lent l.page l.buffer)
