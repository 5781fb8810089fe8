use Rattle.std.proofs.Common.{◌≡◌, [], ◌∷◌, length, arith}
use Rattle.text.specs.Lines.{words}
use Rattle.text.proofs.Writing.{length_line}
use Rattle.statement.specs.Statements.{day_name, first_line}
use Rattle.statement.proofs.issued.first_line_length.Goals as goal

pub returns : goal.returns
unfolding first_line
returns c =
    let h = c.args.heading.now in
    let same : length (words (c.from.result ∷ c.from-2.result ∷ [])) ≡ length (words (h.hours ∷ c.args.issue ∷ [])) = λ i. length (words (c.from.ensures i ∷ c.from-2.ensures i ∷ [])) in
    record {
      value = omega (arith, length_line (day_name h) (h.hours ∷ c.args.issue ∷ []), same, c.words_length.ensures.value);
      bound = omega (arith, c.words_length.ensures.bound);
    }
