-- Each arm is one call of a history, at what the call ensures there.
use Rattle.std.proofs.Common.{refl}
use Rattle.history.specs.Histories.{closes, closes_not, enters_not}
use Rattle.history.proofs.Making.{enter_step}
use Rattle.history.proofs.Replaying.{stepped}
use Rattle.history.proofs.advance.advance_open.Goals as goal

pub returns-in-Ok : goal.returns-in-Ok
returns-in-Ok g c = λ page buffer. rw c.in-Enter.is (enter_step _ _ _ _ _ _ c.in-Ok.ensures)

pub returns-in-Err : goal.returns-in-Err
returns-in-Err g c = λ page buffer. rw c.in-Enter.is (stepped _ _ _ _ (enters_not _ _ _ _ _ c.in-Err.ensures) refl refl refl)

pub returns-in-Ok-close : goal.returns-in-Ok-close
returns-in-Ok-close g c = λ page buffer. rw c.in-Close.is (stepped _ _ _ _ (closes _ _ _ _ _ c.in-Ok-close.ensures) refl refl refl)

pub returns-in-Err-close : goal.returns-in-Err-close
returns-in-Err-close g c = λ page buffer. rw c.in-Close.is (stepped _ _ _ _ (closes_not _ _ _ _ _ c.in-Err-close.ensures) refl refl refl)
