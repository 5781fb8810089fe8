use Rattle.std.proofs.Common.{◌≡◌, drop}
use Rattle.script.specs.Digits.{in_digits}
use Rattle.script.proofs.digits.are_digits.Given as goal

abbrev pub invariant-loop-byte : goal.invariant-loop-byte
invariant-loop-byte l = in_digits l.base l.word ≡ in_digits l.base (drop l.byte-index l.word)
