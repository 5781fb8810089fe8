-- Each arm is one call of a history, at what the call ensures there.
use Rattle.std.proofs.Common.{refl}
use Rattle.history.specs.Histories.{issues_not}
use Rattle.history.proofs.Making.{issue_step, settled_sheet, settled_sheet_not}
use Rattle.history.proofs.Replaying.{stepped}
use Rattle.history.proofs.advance.advance_settled.Goals as goal

pub returns-in-Ok : goal.returns-in-Ok
returns-in-Ok g c = λ buffer. rw c.in-Sheet.is (settled_sheet _ _ _ _ _ _ _ _ (g.met.R.Sharing.fair c.in-Sheet.rule.now) c.in-Ok.ensures)

pub returns-in-Err : goal.returns-in-Err
returns-in-Err g c = λ buffer. rw c.in-Sheet.is (settled_sheet_not _ _ _ _ _ _ _ _ (g.met.R.Sharing.fair c.in-Sheet.rule.now) c.in-Err.ensures)

pub returns-in-Ok-issue : goal.returns-in-Ok-issue
returns-in-Ok-issue g c = λ buffer. rw c.in-Issue.is (issue_step _ _ _ _ _ _ c.in-Ok-issue.ensures)

pub returns-in-Err-issue : goal.returns-in-Err-issue
returns-in-Err-issue g c = λ buffer. rw c.in-Issue.is (stepped _ _ _ _ (issues_not _ _ _ _ c.in-Err-issue.ensures) refl refl refl)
