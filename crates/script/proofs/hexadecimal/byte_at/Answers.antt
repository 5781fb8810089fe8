use Rattle.std.proofs.Common.{◌+◌, ◌*◌, arith}
use Rattle.script.proofs.Steps.{digit_at}
use Rattle.script.proofs.hexadecimal.byte_at.Goals as goal

pub overflow_mul-result : goal.overflow_mul-result
overflow_mul-result c = omega (arith, c.digit_value.ensures.value, digit_at 16 c.args.digits.now (2 * c.args.index) c.requires.right (omega arith))

pub overflow_add-result : goal.overflow_add-result
overflow_add-result c =
    omega (arith, c.digit_value.ensures.value, digit_at 16 c.args.digits.now (2 * c.args.index) c.requires.right (omega arith), c.digit_value-2.ensures.value, digit_at 16 c.args.digits.now (2 * c.args.index + 1) c.requires.right (omega arith))
