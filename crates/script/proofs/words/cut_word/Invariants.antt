use Rattle.script.specs.Words.{blank}
use Rattle.script.proofs.words.cut_word.Given as goal

abbrev pub ghost-length_before : goal.ghost-length_before
ghost-length_before a = blank
