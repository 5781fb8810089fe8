use Rattle.std.proofs.Common.{length, ap, arith}
use Rattle.statement.specs.Statements.{last_line}
use Rattle.statement.proofs.Stated.{length_text}
use Rattle.statement.proofs.issued.text_length.Goals as goal

pub returns : goal.returns
returns c =
    omega (arith, length_text c.args.heading.now c.args.notes.now c.args.issue, c.first_line_length.ensures.value, c.lines_length.ensures.value, c.last_line_length.ensures.value, ap (λ k. length (last_line k)) c.count_in.ensures)
