use Rattle.std.proofs.Common.{◌++◌, length, sym, subst}
use Rattle.std.specs.List.{flat_map}
use Rattle.text.specs.Written.{HasRoom, Puts}
use Rattle.text.proofs.Writing.{room_after, room_front, then}
use Rattle.statement.specs.Lines.{note_line}
use Rattle.statement.specs.Statements.{first_line, last_line, of_issue, statement_text}
use Rattle.statement.proofs.issued.put_text.Goals as goal

pub put_first_line-requires : goal.put_first_line-requires
unfolding statement_text
put_first_line-requires c = room_front c.args.out.now (first_line c.args.heading.now c.args.issue) _ c.requires

pub put_lines-requires : goal.put_lines-requires
unfolding statement_text
put_lines-requires c =
    let mine = of_issue c.args.issue c.args.notes.now in
    room_front c.put_first_line.new.out (flat_map note_line mine) (last_line (length mine)) (room_after (first_line c.args.heading.now c.args.issue) _ c.put_first_line.ensures c.requires)

pub put_last_line-requires : goal.put_last_line-requires
unfolding statement_text
put_last_line-requires c =
    let mine = of_issue c.args.issue c.args.notes.now in
    subst (λ k. HasRoom c.put_lines.new.out (last_line k)) (sym c.count_in.ensures)
    (room_after (flat_map note_line mine) (last_line (length mine)) c.put_lines.ensures (room_after (first_line c.args.heading.now c.args.issue) _ c.put_first_line.ensures c.requires))

pub returns : goal.returns
unfolding statement_text
returns c =
    let first = first_line c.args.heading.now c.args.issue in
    let lines = flat_map note_line (of_issue c.args.issue c.args.notes.now) in
    subst (λ k. Puts c.args.out.now c.put_last_line.new.out (first ++ (lines ++ last_line k))) c.count_in.ensures
    (then first (lines ++ last_line c.count_in.result) c.put_first_line.ensures (then lines (last_line c.count_in.result) c.put_lines.ensures c.put_last_line.ensures))
