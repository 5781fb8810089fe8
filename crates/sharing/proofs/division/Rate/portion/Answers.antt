use Rattle.std.proofs.Common.{◌≡◌, ℕ, ◌+◌, ◌*◌, ◌/◌, ◌%◌, ap, ◌∙◌, arith}
use Rattle.sharing.specs.Limits.{most_weight}
use Rattle.sharing.specs.declared.division.Rate.{Rate}
use Rattle.sharing.proofs.Proportions.{each_fits, exact_quotient, exact_remainder, portion_le, rest_fits}
use Rattle.sharing.proofs.division.Rate.portion.Goals as goal

floor : (rate : Rate) (weight quotient : ℕ) → quotient ≡ rate.rest * weight / rate.total → rate.each * weight + quotient ≡ rate.amount * weight / rate.total
floor rate weight quotient e =
    ap (λ n. n * weight + quotient) rate.each_is
    ∙ ap (λ n. rate.amount / rate.total * weight + n) (e ∙ ap (λ n. n * weight / rate.total) rate.rest_is)
    ∙ exact_quotient rate.amount rate.total weight rate.some

pub overflow_mul-self : goal.overflow_mul-self
overflow_mul-self c =
    let rate = c.args.self.now in
    let w = c.args.weight in
    omega (arith, ap (λ n. n * w) rate.rest_is, rest_fits most_weight rate.amount rate.total w rate.some c.requires rate.light)

pub overflow_mul-result : goal.overflow_mul-result
overflow_mul-result c =
    let rate = c.args.self.now in
    let w = c.args.weight in
    omega (arith, ap (λ n. n * w) rate.each_is, each_fits rate.amount rate.total w c.requires, rate.small)

pub overflow_add-result : goal.overflow_add-result
overflow_add-result c =
    let rate = c.args.self.now in
    let w = c.args.weight in
    omega (arith, floor rate w c.divide-divided.result.quotient c.divide-divided.ensures.quotient, portion_le rate.amount rate.total w rate.some c.requires, rate.small)

pub returns-clause-floor : goal.returns-clause-floor
returns-clause-floor c = floor c.args.self.now c.args.weight c.divide-divided.result.quotient c.divide-divided.ensures.quotient

pub returns-clause-rest : goal.returns-clause-rest
returns-clause-rest c =
    let rate = c.args.self.now in
    let w = c.args.weight in
    c.divide-divided.ensures.remainder ∙ ap (λ n. n * w % rate.total) rate.rest_is ∙ exact_remainder rate.amount rate.total w
