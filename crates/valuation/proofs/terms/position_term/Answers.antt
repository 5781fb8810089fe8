use Rattle.valuation.proofs.Products.{term_is, term_le}
use Rattle.valuation.proofs.terms.position_term.Goals as goal

pub returns-clause-value : goal.returns-clause-value
returns-clause-value c = let e = term_is c.sign.result c.price_for.result c.energy_in-energy.result c.sign.ensures.bound c.price_for.ensures.bound c.energy_in-energy.ensures.bound in cc

pub returns-clause-bound : goal.returns-clause-bound
returns-clause-bound c =
    let s = c.sign.result in
    let p = c.price_for.result in
    let k = c.energy_in-energy.result in
    rw (term_is s p k c.sign.ensures.bound c.price_for.ensures.bound c.energy_in-energy.ensures.bound) (term_le s p k c.sign.ensures.bound c.price_for.ensures.bound c.energy_in-energy.ensures.bound)
