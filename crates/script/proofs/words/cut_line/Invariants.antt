use Rattle.std.specs.Prelude.{◌==◌}
use Rattle.script.proofs.words.cut_line.Given as goal

abbrev pub ghost-length_before : goal.ghost-length_before
ghost-length_before a = λ b. b == 10
