use Rattle.std.specs.List.{flat_map}
use Rattle.text.specs.Written.{Puts}
use Rattle.statement.specs.Lines.{note_line}
use Rattle.statement.proofs.issued.put_lines.Given as goal

abbrev pub invariant-loop-note : goal.invariant-loop-note
invariant-loop-note l = Puts l.initial.out l.out (flat_map (λ n. note_line n.now) l.yielded)
