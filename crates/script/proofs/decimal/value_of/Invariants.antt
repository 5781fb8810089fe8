use Rattle.std.proofs.Common.{◌≡◌, ◌≤◌, take, drop}
use Rattle.std.specs.Str.Parse.{digits_value}
use Rattle.script.specs.Digits.{in_digits}
use Rattle.script.proofs.decimal.value_of.Given as goal

abbrev pub invariant-loop-byte : goal.invariant-loop-byte
invariant-loop-byte l = (l.number ≤ 18446744073709551615) × (l.number ≡ digits_value 10 (take l.byte-index l.word)) × (in_digits 10 l.word ≡ in_digits 10 (drop l.byte-index l.word))
