use Rattle.std.proofs.Common.{◌≡◌, ℕ, ◌≤◌, cond, ltb, Some, None, not, length, unwrap_or, ap, ◌∙◌, arith, rules, tests}
use Rattle.std.proofs.lemmas.Bool.Decides.{nat_tests}
use Rattle.std.proofs.lemmas.Iterator.{YieldsList-from_slice}
use Rattle.std.proofs.lemmas.Iterator.Search.{position_from_yields_List}
use Rattle.std.proofs.lemmas.List.Sums.{prefix_len-le-length}
use Rattle.script.proofs.words.length_before.Goals as goal

or_all : (i n : ℕ) → i ≤ n → unwrap_or (cond (ltb i n) (Some i) None) n ≡ i
or_all i n h = grind (arith, nat_tests)

pub returns-clause-value : goal.returns-clause-value
returns-clause-value g c =
    let t = c.args.text.now in
    let found = position_from_yields_List g.test _ _ c.position.result c.position.ensures.ran (YieldsList-from_slice t cc) (λ x b q k. search (rules, tests)) in
    c.unwrap_or.ensures ∙ ap (λ o. unwrap_or o (length t)) found ∙ or_all _ _ (prefix_len-le-length (λ b. not (g.test b)) t)
