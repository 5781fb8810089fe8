-- Physical purchases, of positions alone.
use Rattle.std.specs.Prelude.{ℕ, cond, List, map, sum_by, ◌==◌}
use Rattle.std.specs.List.{range_with_len}
use Rattle.dayfile.specs.declared.record.Position.{Position}
use Rattle.valuation.specs.Terms.{class_buys}

-- what a position buys in the hour
abbrev pub bought : ℕ → Position → ℕ
bought hour x = cond (x.hour == hour) (cond (class_buys x.class) x.real_time 0) 0

abbrev pub bought_sum : ℕ → ℕ → List Position → ℕ
bought_sum hour account positions = sum_by (λ x. cond (x.account == account) (bought hour x) 0) positions

-- the purchases of so many accounts, account 1 first
abbrev pub bought_sums : ℕ → ℕ → List Position → List ℕ
bought_sums hour count positions = map (λ account. bought_sum hour account positions) (range_with_len 1 count)
