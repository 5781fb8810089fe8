use Rattle.std.proofs.Common.{ap, ◌∙◌}
use Rattle.ledger.specs.Issues.{issue_answer, issue_leaves, new_notes}
use Rattle.day.specs.IssueNumbers.{issue_number}
use Rattle.day.proofs.Given.{issue_ends}
use Rattle.day.proofs.issuing.add.Goals as goal

pub returns : goal.returns
returns c =
    let numbers = c.args.numbers.now in
    let led = c.args.ledger.now in
    let new = new_notes led numbers.notes (issue_number numbers.issue) c.args.table.now in
    let are = ap (λ n. new_notes led numbers.notes n c.args.table.now) c.number.ensures.value in
    let value = c.issue.ensures.answer ∙ ap (issue_answer led numbers.notes) are in
    let after = c.issue.ensures.after ∙ ap (issue_leaves led numbers.notes) are in
    let ends = issue_ends numbers.notes led new c.issue.new.ledger c.issue.result value after in
    record { value = value; after = after; ends = ends.0; room = ends.1 }
