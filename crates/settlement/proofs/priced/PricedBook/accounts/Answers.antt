use Rattle.book.specs.Books.{held}
use Rattle.bounds.proofs.Facts.{sound_facts}
use Rattle.settlement.proofs.priced.PricedBook.accounts.Goals as goal

pub returns-clause-few : goal.returns-clause-few
returns-clause-few c = rw c.from.ensures ((sound_facts (held c.args.self.now.book.now) c.args.self.now.sound).few)
