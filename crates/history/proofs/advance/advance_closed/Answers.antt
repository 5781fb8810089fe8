-- Each arm is one call of a history, at what the call ensures there.
use Rattle.std.proofs.Common.{refl}
use Rattle.history.specs.Histories.{corrects, corrects_not, settles, settles_not}
use Rattle.history.proofs.Replaying.{stepped}
use Rattle.history.proofs.advance.advance_closed.Goals as goal

pub returns-in-Ok : goal.returns-in-Ok
returns-in-Ok g c = λ page buffer. rw c.in-Correct.is (stepped _ _ _ _ (corrects _ _ _ _ _ c.in-Ok.ensures) refl refl refl)

pub returns-in-Err : goal.returns-in-Err
returns-in-Err g c = λ page buffer. rw c.in-Correct.is (stepped _ _ _ _ (corrects_not _ _ _ _ _ c.in-Err.ensures) refl refl refl)

pub returns-in-Ok-settle : goal.returns-in-Ok-settle
returns-in-Ok-settle g c = λ page buffer. rw c.in-Settle.is (stepped _ _ _ _ (settles _ _ _ _ _ (g.met.R.Sharing.fair c.in-Settle.rule.now) c.in-Ok-settle.ensures) refl refl refl)

pub returns-in-Err-settle : goal.returns-in-Err-settle
returns-in-Err-settle g c = λ page buffer. rw c.in-Settle.is (stepped _ _ _ _ (settles_not _ _ _ _ _ (g.met.R.Sharing.fair c.in-Settle.rule.now) c.in-Err-settle.ensures) refl refl refl)
