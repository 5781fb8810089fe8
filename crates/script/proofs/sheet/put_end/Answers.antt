use Rattle.std.proofs.Common.{arith, length-append}
use Rattle.std.proofs.lemmas.Fmt.{length-decimal-le}
use Rattle.statement.specs.Statements.{last_line}
use Rattle.script.proofs.sheet.put_end.Goals as goal

pub put_line-requires : goal.put_line-requires
put_line-requires c = simp length-append (omega (arith, length-decimal-le 20 c.args.count (omega arith) (omega arith) (omega arith)))

pub returns : goal.returns
unfolding last_line
returns c = c.put_line.ensures
