use Rattle.std.proofs.Common.{[], ◌∷◌, codes, arith}
use Rattle.text.proofs.Writing.{length_line}
use Rattle.statement.specs.Statements.{last_line}
use Rattle.statement.proofs.issued.last_line_length.Goals as goal

pub returns : goal.returns
unfolding last_line
returns c = record {
  value = omega (arith, length_line (codes "END") (c.args.count ∷ []), c.words_length.ensures.value);
  bound = omega (arith, c.words_length.ensures.bound);
}
