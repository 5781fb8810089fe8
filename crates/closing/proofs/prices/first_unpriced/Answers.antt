use Rattle.std.proofs.Common.{◌∙◌}
use Rattle.closing.specs.Prices.{position_place, interconnection_place}
use Rattle.closing.proofs.Unpriced.{found_in_two}
use Rattle.closing.proofs.prices.first_unpriced.Goals as goal

pub returns : goal.returns
returns c =
    let b = c.args.book.now in
    c.first_without_price.ensures
    ∙ found_in_two position_place interconnection_place b.prices.items b.positions.items b.interconnections.items
