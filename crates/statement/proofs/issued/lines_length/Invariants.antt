use Rattle.std.proofs.Common.{◌≡◌, ◌*◌, ◌≤◌, length}
use Rattle.std.specs.List.{flat_map}
use Rattle.statement.specs.Lines.{note_line}
use Rattle.statement.proofs.issued.lines_length.Given as goal

abbrev pub invariant-loop-note : goal.invariant-loop-note
invariant-loop-note l = (l.total ≡ length (flat_map (λ n. note_line n.now) l.yielded)) × (l.total ≤ 47 * length l.yielded)
