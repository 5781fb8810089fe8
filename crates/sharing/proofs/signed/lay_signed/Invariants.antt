use Rattle.std.proofs.Common.{◌≡◌, ℕ, ◌<◌, get_or, pos}
use Rattle.sharing.specs.Signed.{with_sign_of}
use Rattle.sharing.proofs.signed.lay_signed.Given as goal

abbrev pub invariant-loop-i : goal.invariant-loop-i
invariant-loop-i l = (k : ℕ) → k < l.i → get_or l.shares k (pos 0) ≡ with_sign_of l.amount (get_or l.parts k 0)
