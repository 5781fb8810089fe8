use Rattle.book.specs.Books.{held}
use Rattle.day.specs.Memory.{memory}
use Rattle.history.proofs.Making.{load_step, open_step}
use Rattle.history.proofs.advance.begin.Goals as goal

pub returns-in_ok-open-in-Open : goal.returns-in_ok-open-in-Open
returns-in_ok-open-in-Open c = rw c.in-Open.is (λ l. open_step _ _ _ _ l c.in_ok-open-in-Open.ensures)

pub returns-in_ok-load-in-Load : goal.returns-in_ok-load-in-Load
returns-in_ok-load-in-Load c = rw c.in-Load.is (λ l. load_step (memory (held c.args.book.now) c.args.table.now c.args.ledger.now) _ _ _ l c.in_ok-load-in-Load.ensures)
