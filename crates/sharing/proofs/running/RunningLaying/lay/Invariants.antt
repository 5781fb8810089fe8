use Rattle.std.proofs.Common.{◌≡◌, ℕ, ◌<◌, get_or, take, sum}
use Rattle.sharing.specs.Running.{due}
use Rattle.sharing.specs.RunningFair.{part}
use Rattle.sharing.proofs.running.RunningLaying.lay.Given as goal

abbrev pub invariant-loop-i : goal.invariant-loop-i
invariant-loop-i l =
    (l.reached ≡ sum (take l.i l.weights))
    × (l.before ≡ due l.rate.amount l.weights l.i)
    × ((k : ℕ) → k < l.i → get_or l.shares k 0 ≡ part l.rate.amount l.weights k)
