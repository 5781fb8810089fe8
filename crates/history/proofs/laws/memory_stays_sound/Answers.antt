use Rattle.history.proofs.Theorem.{stays_sound}
use Rattle.history.proofs.Unsound.{never_unsound}
use Rattle.history.proofs.laws.memory_stays_sound.Goals as goal

pub returns : goal.returns
returns c = record { stays = stays_sound; never = never_unsound }
