-- The rules, with their numbers and meanings.
use Rattle.std.specs.Prelude.{ℕ, cond, List, Some, None, Option, ◌==◌}
use Rattle.sharing.specs.LargestRemainder.{largest_remainder}
use Rattle.sharing.specs.Running.{running}
use Rattle.sharing.specs.declared.choice.Rule.{Rule}
use Rattle.sharing.specs.declared.choice.Rule.TheVariants.{LargestRemainder, Running}

abbrev pub rule_number : Rule → ℕ
rule_number Running = 1
rule_number LargestRemainder = 2

abbrev pub rule_parts : Rule → ℕ → List ℕ → List ℕ
rule_parts Running = running
rule_parts LargestRemainder = largest_remainder

-- the rule with a number
abbrev pub rule_of : ℕ → Option Rule
rule_of number =
    cond (number == rule_number Running) (Some Running)
    (cond (number == rule_number LargestRemainder) (Some LargestRemainder) None)
