use Rattle.std.proofs.Common.{◌+◌, take, ap, ◌∙◌}
use Rattle.statement.specs.Statements.{statement_answer, statement_leaves}
use Rattle.day.specs.Calls.{made_with}
use Rattle.day.proofs.Given.{statement_ends}
use Rattle.day.proofs.issuing.put.Goals as goal

pub returns : goal.returns
returns c =
    let numbers = c.args.numbers.now in
    let notes = take numbers.notes c.args.ledger.now in
    let made = ap (λ n. n + 1) c.number.ensures.value in
    let value = c.statement.ensures.answer ∙ ap (λ n. statement_answer numbers.heading notes n c.args.issue c.args.buffer.now) made in
    let after = c.statement.ensures.after ∙ ap (λ n. statement_leaves numbers.heading notes n c.args.issue c.args.buffer.now) made in
    record { value = value; after = after; ends = statement_ends numbers.heading notes (made_with numbers) c.args.issue c.args.buffer.now c.statement.new.buffer c.statement.result value after }
