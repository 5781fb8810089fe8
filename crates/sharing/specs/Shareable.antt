-- What every rule shares, and how it refuses everything else.
use Rattle.std.specs.Prelude.{ℕ, Bool, cond, ◌&&◌, ◌||◌, List, length, Ok, Err, sum, Result, ◌==◌, nat_le, nat_lt}
use Rattle.faults.specs.Places.{plain}
use Rattle.faults.specs.declared.fault.Fault.{Fault}
use Rattle.faults.specs.declared.refusal.Refusal.TheVariants.{NotShareable}
use Rattle.sharing.specs.Limits.{most_amount, most_places, most_weight}

-- there are weights and not too many of them, no limit is passed, and an amount other than 0 has somebody to bear it
abbrev pub shareable : ℕ → List ℕ → Bool
shareable amount weights =
    (nat_le 1 (length weights) && (nat_le (length weights) most_places && nat_le amount most_amount))
    && (nat_le (sum weights) most_weight && (nat_lt 0 (sum weights) || amount == 0))

-- the same, with a list of so many places to write the parts into
abbrev pub admitted : ℕ → List ℕ → ℕ → Bool
admitted amount weights places = places == length weights && shareable amount weights

-- the one refusal of a rule: it names no place
abbrev pub not_shareable : Fault
not_shareable = plain NotShareable

abbrev pub total_answer : ℕ → List ℕ → ℕ → Result ℕ Fault
total_answer amount weights places = cond (admitted amount weights places) (Ok (sum weights)) (Err not_shareable)

-- what a rule's own call answers, and what its list of parts then holds
abbrev pub share_answer : ℕ → List ℕ → ℕ → Result (Unit {0}) Fault
share_answer amount weights places = cond (admitted amount weights places) (Ok tt) (Err not_shareable)

abbrev pub share_leaves : (ℕ → List ℕ → List ℕ) → ℕ → List ℕ → List ℕ → List ℕ
share_leaves parts amount weights before = cond (admitted amount weights (length before)) (parts amount weights) before
