use Rattle.std.proofs.Common.{ℕ, length, decimal, ap, ◌∙◌, arith, w64}
use Rattle.std.proofs.lemmas.Int.{to_z-of_z}
use Rattle.statement.specs.Sides.{side_and_magnitude}
use Rattle.statement.specs.declared.side.Side.{Side}
use Rattle.statement.proofs.Lengths.{length_amount_line}
use Rattle.statement.proofs.line.amount_line_length.Goals as goal

pub returns : goal.returns
returns c =
    let s = c.side_and_magnitude-magnitude.ensures ∙ ap side_and_magnitude (to_z-of_z w64 c.args.amount c.ranges.amount) in
    let m = ap (λ (a : Side × ℕ). length (decimal a.1)) s in
    let p = ap (λ k. length (decimal k)) c.from.ensures in
    record {
      value = λ code. omega (arith, length_amount_line code c.args.party c.args.amount, m, p, c.decimal_length.ensures.value, c.decimal_length-2.ensures.value);
      bound = omega (arith, c.decimal_length.ensures.bound, c.decimal_length-2.ensures.bound);
    }
