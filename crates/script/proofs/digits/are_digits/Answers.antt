use Rattle.std.proofs.Common.{◌≡◌, true, false, ltb, get_or, sym, ap, ◌∙◌}
use Rattle.std.proofs.lemmas.Bool.{and_left, le-ltb, lt-ltb}
use Rattle.std.specs.Char.{digit_value}
use Rattle.script.proofs.Steps.{digits_all, digits_more, past}
use Rattle.script.proofs.digits.are_digits.Goals as goal

pub returns-then-digit_value-base : goal.returns-then-digit_value-base
returns-then-digit_value-base c =
    let w = c.args.word.now in
    let i = c.loop-byte.byte-index in
    let none : ltb (digit_value (get_or w i 0)) c.args.base ≡ false =
    ap (λ d. ltb d c.args.base) (sym c.digit_value.ensures.value) ∙ le-ltb _ _ c.if-digit_value-base.true in
    sym (c.loop-byte.invariant ∙ digits_more c.args.base w i c.loop-byte-test.true ∙ and_left _ _ none)

pub loop-byte-preserved : goal.loop-byte-preserved
loop-byte-preserved c =
    let w = c.args.word.now in
    let i = c.loop-byte.byte-index in
    let one : ltb (digit_value (get_or w i 0)) c.args.base ≡ true =
    ap (λ d. ltb d c.args.base) (sym c.digit_value.ensures.value) ∙ lt-ltb _ _ c.if-digit_value-base.false in
    c.loop-byte.invariant ∙ digits_more c.args.base w i c.loop-byte-test.true ∙ past _ _ one

pub returns : goal.returns
returns c = sym (c.loop-byte.invariant ∙ digits_all c.args.base c.args.word.now c.loop-byte.byte-index c.loop-byte-test.false)
