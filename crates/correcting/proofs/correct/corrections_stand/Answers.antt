use Rattle.correcting.proofs.Corrected.{correcting_keeps_sound}
use Rattle.correcting.proofs.correct.corrections_stand.Goals as goal

pub returns : goal.returns
returns c = record { corrected = correcting_keeps_sound }
