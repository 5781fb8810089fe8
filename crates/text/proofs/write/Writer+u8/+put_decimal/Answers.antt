use Rattle.std.proofs.Common.{◌+◌, ◌/◌, ◌%◌, [], ◌∷◌, decimal, arith}
use Rattle.std.proofs.lemmas.Fmt.{decimal_digit, decimal_step}
use Rattle.text.proofs.Writing.{length_decimal_step, room_after, then}
use Rattle.text.proofs.write.Writer+u8.+put_decimal.Goals as goal

pub put_decimal-requires : goal.put_decimal-requires
put_decimal-requires t c =
    let step = length_decimal_step c.args.n (omega arith) (omega arith) in
    (omega arith, omega arith)

pub put-requires : goal.put-requires
put-requires t c =
    room_after (decimal (c.args.n / 10)) ((48 + c.args.n % 10) ∷ []) c.put_decimal.ensures (rw (decimal_step c.args.n (omega arith) (omega arith)) at c.requires)

pub put-requires-else-n-ge10 : goal.put-requires-else-n-ge10
put-requires-else-n-ge10 t c = rw (decimal_digit c.args.n (omega arith)) at c.requires

pub returns-then-n-ge10 : goal.returns-then-n-ge10
returns-then-n-ge10 t c =
    rw (decimal_step c.args.n (omega arith) (omega arith)) (then (decimal (c.args.n / 10)) ((48 + c.args.n % 10) ∷ []) c.put_decimal.ensures c.put.ensures)

pub returns-else-n-ge10 : goal.returns-else-n-ge10
returns-else-n-ge10 t c = rw (decimal_digit c.args.n (omega arith)) c.put-else-n-ge10.ensures
