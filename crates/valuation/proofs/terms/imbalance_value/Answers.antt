use Rattle.valuation.proofs.Products.{four_fits, four_is, four_le}
use Rattle.valuation.proofs.terms.imbalance_value.Goals as goal

pub overflow_sub-result-2 : goal.overflow_sub-result-2
overflow_sub-result-2 c =
    four_fits c.priced_export-scheduled.result c.priced_export-metered.result c.priced_export-replaced.result c.imbalance_term.result c.priced_export-scheduled.ensures.bound c.priced_export-metered.ensures.bound c.priced_export-replaced.ensures.bound c.imbalance_term.ensures.bound

pub returns-clause-bound : goal.returns-clause-bound
returns-clause-bound c =
    let a = c.priced_export-scheduled in
    let b = c.priced_export-metered in
    let r = c.priced_export-replaced in
    let d = c.imbalance_term in
    rw (four_is a.result b.result r.result d.result a.ensures.bound b.ensures.bound r.ensures.bound d.ensures.bound)
    (four_le a.result b.result r.result d.result a.ensures.bound b.ensures.bound r.ensures.bound d.ensures.bound)
