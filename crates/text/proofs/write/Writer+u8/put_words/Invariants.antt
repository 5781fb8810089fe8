use Rattle.std.proofs.Common.{take}
use Rattle.text.specs.Lines.{words}
use Rattle.text.specs.Written.{Puts}
use Rattle.text.proofs.write.Writer+u8.put_words.Given as goal

abbrev pub invariant-loop-n : goal.invariant-loop-n
invariant-loop-n l = Puts l.initial.self l.self (words (take l.n-index l.numbers))
