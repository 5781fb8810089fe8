use Rattle.history.proofs.Theorem.{every_history}
use Rattle.history.proofs.laws.histories_keep_the_laws.Goals as goal

pub returns : goal.returns
returns c = every_history
