use Rattle.std.proofs.Common.{is_ok, is_some, ap, ◌∙◌, arith}
use Rattle.statement.proofs.Room.{few_in, fits_in}
use Rattle.statement.proofs.Stated.{kept}
use Rattle.statement.proofs.issued.statement.Goals as goal

pub put_statement-requires : goal.put_statement-requires
put_statement-requires c = few_in c.args.ledger.now c.args.notes c.args.issues (omega arith) c.requires

pub returns-then-issue-issues-clause-fits : goal.returns-then-issue-issues-clause-fits
returns-then-issue-issues-clause-fits c = λ made room.
    ap is_ok c.ok_or.ensures.value ∙ kept c.put_statement.result c.plain.result ∙ ap is_some c.put_statement.ensures.answer
    ∙ fits_in c.args.heading.now c.args.ledger.now c.args.notes c.args.issues c.args.issue c.args.buffer.now (omega arith) (omega arith) c.requires room
