use Rattle.std.proofs.Common.{◌≡◌, Some, sym, ◌∙◌, subst, of_calls}
use Rattle.dayfile.specs.declared.record.Price.{Price}
use Rattle.valuation.specs.Valid.{ValidPrice}
use Rattle.valuation.proofs.Prices.{ValidFound, found_valid}
use Rattle.valuation.proofs.terms.price_for.Goals as goal

pub map_or-requires : goal.map_or-requires
map_or-requires c =
    let valid : (p : Price) → c.price_at.result ≡ Some p → ValidPrice p =
    λ p e. subst ValidFound (sym c.price_at.ensures ∙ e) (found_valid c.args.prices.now.prices.now c.args.node c.args.hour c.requires) in
    search (of_calls, valid)
