use Rattle.std.specs.Prelude.{not}
use Rattle.script.specs.Words.{blank}
use Rattle.script.proofs.words.without_blanks.Given as goal

abbrev pub ghost-length_before : goal.ghost-length_before
ghost-length_before a = λ b. not (blank b)
