use Rattle.std.proofs.Common.{◌+◌, ◌*◌, ◌≤◌}
use Rattle.text.specs.Written.{Puts}
use Rattle.script.specs.Sheets.{lines_to}
use Rattle.script.proofs.sheet.put_lines.Given as goal

abbrev pub invariant-loop-place : goal.invariant-loop-place
invariant-loop-place l = Puts l.initial.out l.out (lines_to l.place l.page) × (l.out.at ≤ l.initial.out.at + 47 * l.place)
