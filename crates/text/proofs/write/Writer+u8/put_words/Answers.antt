use Rattle.text.specs.Lines.{word}
use Rattle.text.proofs.Writing.{piece_more, room_for_piece}
use Rattle.text.proofs.write.Writer+u8.put_words.Goals as goal

pub put_word-requires : goal.put_word-requires
put_word-requires c = room_for_piece word c.args.numbers.now 0 c.loop-n.n-index c.loop-n-test.true c.loop-n.invariant c.requires

pub loop-n-preserved : goal.loop-n-preserved
loop-n-preserved c = piece_more word c.args.numbers.now 0 c.loop-n.n-index c.loop-n-test.true c.loop-n.invariant c.put_word.ensures
