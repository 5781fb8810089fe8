use Rattle.std.proofs.Common.{rules, tests, ◌∙◌}
use Rattle.std.proofs.lemmas.Iterator.{YieldsList-from_slice}
use Rattle.std.proofs.lemmas.Iterator.Consumers.{YieldsList-from_enumerate}
use Rattle.std.proofs.lemmas.Iterator.Search.{all_from_yields_List}
use Rattle.rows.proofs.Taken.{taken_all, taken_at}
use Rattle.rows.proofs.table.are_sound.Goals as goal

pub returns : goal.returns
returns g c =
    let t = g.T.Row.terms in
    let h = c.args.heading.now in
    let rows = c.args.rows.now in
    all_from_yields_List (taken_at t h rows) _ _ _ c.all.ensures.ran
    (YieldsList-from_enumerate (YieldsList-from_slice rows cc) cc) (λ x b q k. search (rules, tests))
    ∙ taken_all t h rows
