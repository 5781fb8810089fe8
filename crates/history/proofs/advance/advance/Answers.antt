use Rattle.history.proofs.advance.advance.Goals as goal

pub returns-in-Open : goal.returns-in-Open
returns-in-Open g c = rw c.in-Open.is (c.advance_open.ensures c.args.page.now c.args.buffer.now)

pub returns-in-Closed : goal.returns-in-Closed
returns-in-Closed g c = rw c.in-Closed.is (c.advance_closed.ensures c.args.page.now c.args.buffer.now)
