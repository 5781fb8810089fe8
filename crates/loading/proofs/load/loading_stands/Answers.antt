use Rattle.loading.proofs.Whole.{load_is_calls, loaded_is_sound}
use Rattle.loading.proofs.load.loading_stands.Goals as goal

pub returns : goal.returns
returns c = record { calls = load_is_calls; sound = loaded_is_sound }
