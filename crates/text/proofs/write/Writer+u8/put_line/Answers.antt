use Rattle.std.proofs.Common.{[], ◌∷◌, ◌++◌}
use Rattle.text.specs.Lines.{words}
use Rattle.text.proofs.Writing.{then}
use Rattle.text.proofs.write.Writer+u8.put_line.Goals as goal

pub returns : goal.returns
returns c =
    then c.args.name.now (words c.args.numbers.now ++ (10 ∷ [])) c.put.ensures (then (words c.args.numbers.now) (10 ∷ []) c.put_words.ensures c.put-2.ensures)
