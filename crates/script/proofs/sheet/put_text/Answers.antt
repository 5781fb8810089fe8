use Rattle.std.proofs.Common.{ℕ, ◌+◌, ◌*◌, ◌≤◌, List, ◌++◌, length, arith, subst}
use Rattle.codes.specs.Cells.{cell_count}
use Rattle.statement.specs.Statements.{last_line}
use Rattle.text.specs.Written.{Puts}
use Rattle.text.specs.declared.write.Writer.{Writer}
use Rattle.text.proofs.Writing.{same_length, then}
use Rattle.script.specs.Sheets.{lines_to, sheet_text}
use Rattle.script.proofs.sheet.put_text.Goals as goal

room_at_end : {a b : Writer ℕ} {text : List ℕ} → Puts a b text → a.at + 25029 ≤ length a.buffer.now → b.at ≤ a.at + 47 * 532 → b.at + 25 ≤ length b.buffer.now
room_at_end p room bound = omega (arith, same_length p)

pub put_end-requires : goal.put_end-requires
put_end-requires c = room_at_end c.put_lines.ensures.put c.requires c.put_lines.ensures.bound

pub returns : goal.returns
unfolding sheet_text
returns c =
    let lines = lines_to cell_count c.args.page.now in
    subst (λ k. Puts c.args.out.now c.put_end.new.out (lines ++ last_line k)) c.count_lines.ensures
    (then lines (last_line c.count_lines.result) c.put_lines.ensures.put c.put_end.ensures)
