use Rattle.std.proofs.Common.{rules, tests, ◌∙◌}
use Rattle.std.proofs.lemmas.Iterator.{YieldsList-from_slice}
use Rattle.std.proofs.lemmas.Iterator.Search.{position_from_yields_List}
use Rattle.rows.proofs.Places.{first_place_is}
use Rattle.correcting.specs.Readings.{is_position_of}
use Rattle.correcting.proofs.correct.find_position.Goals as goal

pub returns-clause-value : goal.returns-clause-value
returns-clause-value c =
    let t = is_position_of c.args.account c.args.node c.args.hour c.args.class in
    position_from_yields_List t _ _ _ c.position.ensures.ran (YieldsList-from_slice c.args.positions.now cc) (λ x b q k. search (rules, tests))
    ∙ first_place_is t c.args.positions.now
