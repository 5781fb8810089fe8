use Rattle.std.proofs.Common.{◌≡◌, Err, rules}
use Rattle.book.specs.Books.{held}
use Rattle.correcting.specs.Readings.{correction}
use Rattle.day.proofs.Given.{refused_is, reread_is}
use Rattle.day.proofs.corrections.reread.Goals as goal

pub returns-in_err-correct-clause-value : goal.returns-in_err-correct-clause-value
returns-in_err-correct-clause-value c =
    let went : Err c.in_err-correct.field-0.0 ≡ correction (held c.args.book.now) c.args.reading = refused_is (correction (held c.args.book.now) c.args.reading) c.in_err-correct.field-0.0 c.in_err-correct.ensures.value in
    search rules

pub returns-clause-value : goal.returns-clause-value
returns-clause-value c = reread_is (held c.args.book.now) c.args.reading c.in_ok-correct.ensures.value
