use Rattle.std.proofs.Common.{sym, subst}
use Rattle.text.specs.Written.{HasRoom, Puts}
use Rattle.statement.proofs.Stated.{first_from}
use Rattle.statement.proofs.issued.put_first_line.Goals as goal

pub put_line-requires : goal.put_line-requires
put_line-requires c =
    subst (λ z. HasRoom c.args.out.now z)
    (sym (first_from c.args.heading.now c.args.issue c.day_name-name.result c.from.result c.from-2.result c.day_name-name.ensures c.from.ensures c.from-2.ensures)) c.requires

pub returns : goal.returns
returns c =
    subst (λ z. Puts c.args.out.now c.put_line.new.self z)
    (first_from c.args.heading.now c.args.issue c.day_name-name.result c.from.result c.from-2.result c.day_name-name.ensures c.from.ensures c.from-2.ensures) c.put_line.ensures
