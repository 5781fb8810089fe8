use Rattle.std.proofs.Common.{sym, subst}
use Rattle.codes.specs.Cells.{cell}
use Rattle.text.specs.Written.{HasRoom, Puts}
use Rattle.ledger.proofs.Adding.{rows_are}
use Rattle.ledger.proofs.issue.put_notes.Goals as goal

pub put_rows-requires : goal.put_rows-requires
put_rows-requires c = subst (λ ns. HasRoom c.args.out.now ns) (sym (rows_are c.args.issue (cell c.args.rest.now))) c.requires

pub returns : goal.returns
returns c = subst (λ ns. Puts c.args.out.now c.put_rows.new.out ns) (rows_are c.args.issue (cell c.args.rest.now)) c.put_rows.ensures
