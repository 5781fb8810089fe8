use Rattle.std.proofs.Common.{sym, ap, ◌∙◌}
use Rattle.rows.specs.Kinds.{price_terms, position_terms, interconnection_terms, reserve_terms, failure_terms, fine_terms}
use Rattle.rows.proofs.Taken.{room_left}
use Rattle.book.specs.Books.{held, record_refusal}
use Rattle.book.proofs.book.Book.add.Goals as goal

pub push_reserved-requires : goal.push_reserved-requires
push_reserved-requires c =
    let b = c.args.self.now in
    room_left price_terms b.heading b.prices.items c.in-Price.p _ _ b.prices.ok.0 b.prices_fit (ap (record_refusal (held b)) (sym c.in-Price.is) ∙ c.requires)

pub push_reserved-requires-in-Position : goal.push_reserved-requires-in-Position
push_reserved-requires-in-Position c =
    let b = c.args.self.now in
    room_left position_terms b.heading b.positions.items c.in-Position.p _ _ b.positions.ok.0 b.positions_fit (ap (record_refusal (held b)) (sym c.in-Position.is) ∙ c.requires)

pub push_reserved-requires-in-Interconnection : goal.push_reserved-requires-in-Interconnection
push_reserved-requires-in-Interconnection c =
    let b = c.args.self.now in
    room_left interconnection_terms b.heading b.interconnections.items c.in-Interconnection.p _ _ b.interconnections.ok.0 b.interconnections_fit (ap (record_refusal (held b)) (sym c.in-Interconnection.is) ∙ c.requires)

pub push_reserved-requires-in-Reserve : goal.push_reserved-requires-in-Reserve
push_reserved-requires-in-Reserve c =
    let b = c.args.self.now in
    room_left reserve_terms b.heading b.reserves.items c.in-Reserve.p _ _ b.reserves.ok.0 b.reserves_fit (ap (record_refusal (held b)) (sym c.in-Reserve.is) ∙ c.requires)

pub push_reserved-requires-in-Failure : goal.push_reserved-requires-in-Failure
push_reserved-requires-in-Failure c =
    let b = c.args.self.now in
    room_left failure_terms b.heading b.failures.items c.in-Failure.p _ _ b.failures.ok.0 b.failures_fit (ap (record_refusal (held b)) (sym c.in-Failure.is) ∙ c.requires)

pub push_reserved-requires-in-Fine : goal.push_reserved-requires-in-Fine
push_reserved-requires-in-Fine c =
    let b = c.args.self.now in
    room_left fine_terms b.heading b.fines.items c.in-Fine.p _ _ b.fines.ok.0 b.fines_fit (ap (record_refusal (held b)) (sym c.in-Fine.is) ∙ c.requires)
