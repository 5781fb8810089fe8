use Rattle.std.proofs.Common.{◌+◌, arith, ap, ◌∙◌}
use Rattle.std.proofs.lemmas.Bool.Decides.{nat_tests}
use Rattle.std.proofs.lemmas.Grind.{common_steps}
use Rattle.std.proofs.lemmas.Int.Digits.{digits_value_more}
use Rattle.std.proofs.lemmas.List.{take_all}
use Rattle.std.proofs.lemmas.Str.Parse.{digits_value-take-le}
use Rattle.std.specs.Str.Parse.{digits_value}
use Rattle.script.proofs.Steps.{digits_all, digits_more}
use Rattle.script.proofs.decimal.value_of.Goals as goal

pub returns-in_err-number : goal.returns-in_err-number
returns-in_err-number c =
    let w = c.args.word.now in
    let i = c.loop-byte.byte-index in
    let more = digits_value_more 10 w i c.loop-byte-test.true in
    let least = digits_value-take-le 10 w (i + 1) (omega arith) in
    let rest = digits_more 10 w i c.loop-byte-test.true in
    grind (arith, nat_tests, common_steps, more, least, rest, c.loop-byte.invariant.1, c.loop-byte.invariant.2)

pub loop-byte-preserved : goal.loop-byte-preserved
loop-byte-preserved c =
    let w = c.args.word.now in
    let i = c.loop-byte.byte-index in
    let more = digits_value_more 10 w i c.loop-byte-test.true in
    let rest = digits_more 10 w i c.loop-byte-test.true in (
      grind (arith, nat_tests, common_steps),
      grind (arith, nat_tests, common_steps, more, c.loop-byte.invariant.1),
      grind (arith, nat_tests, common_steps, rest, c.loop-byte.invariant.2),
    )

pub returns : goal.returns
returns c =
    let i = c.loop-byte.byte-index in
    let is = c.loop-byte.invariant.1 ∙ ap (digits_value 10) (take_all i c.args.word.now c.loop-byte-test.false) in
    let all = c.loop-byte.invariant.2 ∙ digits_all 10 c.args.word.now i c.loop-byte-test.false in
    grind (arith, nat_tests, is, all, c.loop-byte.invariant.0)
