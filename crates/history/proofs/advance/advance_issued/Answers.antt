-- Each arm is one call of a history, at what the call ensures there.
use Rattle.std.proofs.Common.{refl}
use Rattle.history.specs.Histories.{reopens, reopens_not}
use Rattle.history.proofs.Making.{issued_sheet, issued_sheet_not, statement_step, statement_step_not}
use Rattle.history.proofs.Replaying.{stepped}
use Rattle.history.proofs.advance.advance_issued.Goals as goal

pub returns-in-Ok : goal.returns-in-Ok
returns-in-Ok g c = rw c.in-Sheet.is (issued_sheet _ _ _ _ _ _ _ _ (g.met.R.Sharing.fair c.in-Sheet.rule.now) c.in-Ok.ensures)

pub returns-in-Err : goal.returns-in-Err
returns-in-Err g c = rw c.in-Sheet.is (issued_sheet_not _ _ _ _ _ _ _ _ (g.met.R.Sharing.fair c.in-Sheet.rule.now) c.in-Err.ensures)

pub returns-in-Ok-statement : goal.returns-in-Ok-statement
returns-in-Ok-statement g c = rw c.in-Statement.is (statement_step _ _ _ _ _ _ _ _ c.in-Ok-statement.ensures)

pub returns-in-Err-statement : goal.returns-in-Err-statement
returns-in-Err-statement g c = rw c.in-Statement.is (statement_step_not _ _ _ _ _ _ _ c.in-Err-statement.ensures)

pub returns-in-Ok-reopen : goal.returns-in-Ok-reopen
returns-in-Ok-reopen g c = rw c.in-Reopen.is (stepped _ _ _ _ (reopens _ _ _ _ c.in-Ok-reopen.ensures) refl refl refl)

pub returns-in-Err-reopen : goal.returns-in-Err-reopen
returns-in-Err-reopen g c = rw c.in-Reopen.is (stepped _ _ _ _ (reopens_not _ _ _ _ c.in-Err-reopen.ensures) refl refl refl)
