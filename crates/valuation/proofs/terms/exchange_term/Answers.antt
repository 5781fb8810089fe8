use Rattle.valuation.proofs.Products.{product_is, product_le}
use Rattle.valuation.proofs.terms.exchange_term.Goals as goal

pub returns-clause-value : goal.returns-clause-value
returns-clause-value c = let e = product_is c.price_for.result c.exchange_energy.result c.price_for.ensures.bound c.exchange_energy.ensures.bound in cc

pub returns-clause-bound : goal.returns-clause-bound
returns-clause-bound c =
    let p = c.price_for.result in
    let k = c.exchange_energy.result in
    rw (product_is p k c.price_for.ensures.bound c.exchange_energy.ensures.bound) (product_le 10000000 4000000 p k c.price_for.ensures.bound c.exchange_energy.ensures.bound)
