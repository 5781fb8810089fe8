use Rattle.settlement.specs.Grown.{RowAdded}
use Rattle.settlement.proofs.Rows.{first_amounts}
use Rattle.settlement.proofs.adding.add_listed.Given as goal

abbrev pub invariant-loop-i : goal.invariant-loop-i
invariant-loop-i l = RowAdded l.initial.table l.table l.code (first_amounts l.amounts l.i)
