use Rattle.history.proofs.Determined.{determined}
use Rattle.history.proofs.laws.calls_determine_histories.Goals as goal

pub returns : goal.returns
returns c = determined
