use Rattle.std.proofs.Common.{rules, tests}
use Rattle.std.proofs.lemmas.Iterator.{YieldsList-from_slice}
use Rattle.std.proofs.lemmas.Iterator.Search.{any_from_yields_List}
use Rattle.book.specs.Books.{held}
use Rattle.codes.proofs.Codes.{code_table}
use Rattle.amounts.specs.Amounts.{lacks}
use Rattle.settlement.proofs.priced.PricedHour.is_lacking.Goals as goal

pub returns : goal.returns
returns c =
    let r = held c.args.self.now.day.now.book.now in
    any_from_yields_List {all = code_table} (λ row. lacks r c.args.self.now.hour row.code) _ _ _ c.any.ensures.ran (YieldsList-from_slice code_table cc) (λ x b q k. search (rules, tests))
