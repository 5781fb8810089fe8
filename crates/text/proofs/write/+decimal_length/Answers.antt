use Rattle.std.proofs.Common.{length, sym, ap, arith}
use Rattle.std.proofs.lemmas.Fmt.{decimal_digit, length-decimal-le}
use Rattle.text.proofs.Writing.{length_decimal_step}
use Rattle.text.proofs.write.+decimal_length.Goals as goal

pub returns-then-n-ge10 : goal.returns-then-n-ge10
returns-then-n-ge10 t c =
    let step = length_decimal_step c.args.n (omega arith) (omega arith) in
    let most = length-decimal-le 20 c.args.n (omega arith) (omega arith) (omega arith) in
    record { value = omega (arith, step, c.decimal_length.ensures.value); bound = omega (arith, step, most, c.decimal_length.ensures.value) }

pub returns-else-n-ge10 : goal.returns-else-n-ge10
returns-else-n-ge10 t c = record { value = sym (ap length (decimal_digit c.args.n (omega arith))); bound = omega arith }
