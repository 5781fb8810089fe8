use Rattle.std.proofs.Common.{◌≡◌, ℕ, ap, Ok, length, drop, vec_items, refl, subst, arith, rules}
use Rattle.history.specs.Events.{lent}
use Rattle.history.specs.Replays.{Stopped, calls_in}
use Rattle.history.specs.declared.steps.Outcome.TheVariants.{Done}
use Rattle.history.proofs.Outcomes.{unmapped}
use Rattle.history.proofs.Replaying.{ends, ran_on, step_more, stops}
use Rattle.history.proofs.replay.make_steps.Goals as goal

pub returns-in-Err : goal.returns-in-Err
returns-in-Err g c =
    let parts = g.R.Sharing.parts in
    let same = c.in-Err.ensures in
    let many : c.loop-step.step-index ≡ length (vec_items c.loop-step.answers) = omega arith in
    let entries : length c.begin.new.ledger ≡ length c.args.ledger.now = omega arith in
    let room : length c.loop-step.buffer ≡ length c.args.buffer.now = omega arith in
    ran_on parts _ c.args.start.now c.args.steps.now _ _ c.loop-step.day c.in-Err.not_taken.0 _ _ _ _ _ _ c.loop-step.step-index refl entries many c.loop-step.invariant.2 same.0 same.1 same.2
    (subst (λ (n : ℕ). Stopped (calls_in parts n (drop c.loop-step.step-index c.args.steps.now)) c.loop-step.day) room
    (stops parts _ c.args.steps.now c.loop-step.step-index c.step-item.result c.loop-step.day c.loop-step-test.true (search rules) same.3))

pub loop-step-init : goal.loop-step-init
loop-step-init g c =
    let begun = unmapped _ c.begin.result c.map_err.result c.in_ok-day.day c.in_ok-day.was c.map_err.ensures.variant c.map_err.ensures.cases in
    let entries : length c.begin.new.ledger ≡ length c.args.ledger.now = omega arith in (
      omega (arith, ap length c.requires.none),
      c.requires.room,
      rw (c.requires.none, entries) ((rw begun at c.begin.ensures) (lent c.args.page.now c.args.buffer.now)),
    )

pub loop-step-preserved : goal.loop-step-preserved
loop-step-preserved g c =
    let inv = c.loop-step.invariant in
    let room : length c.loop-step.buffer ≡ length c.args.buffer.now = omega arith in
    let pushed = c.push_reserved.ensures in (
      omega arith,
      omega arith,
      rw pushed.items (step_more g.R.Sharing.parts _ c.args.steps.now _ (Ok Done) _ c.loop-step.step-index c.step-item.result c.in-Ok.made.1 c.loop-step.day c.in-Ok.made.0 _ _ _ _ _ _ inv.2 c.in-Ok.ensures room c.loop-step-test.true (search rules)),
    )

pub returns : goal.returns
returns g c =
    let parts = g.R.Sharing.parts in
    let many : c.loop-step.step-index ≡ length (vec_items c.loop-step.answers) = omega arith in
    let entries : length c.begin.new.ledger ≡ length c.args.ledger.now = omega arith in
    ran_on parts _ c.args.start.now c.args.steps.now _ _ c.loop-step.day c.loop-step.day _ _ _ _ _ _ c.loop-step.step-index refl entries many c.loop-step.invariant.2 refl refl refl
    (ends parts _ c.args.steps.now c.loop-step.step-index c.loop-step.day c.loop-step-test.false)
