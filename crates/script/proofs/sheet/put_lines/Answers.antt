use Rattle.std.proofs.Common.{arith}
use Rattle.codes.specs.Cells.{cell_at}
use Rattle.text.proofs.Writing.{same_length, then}
use Rattle.script.specs.Sheets.{line_of, lines_to}
use Rattle.script.proofs.Steps.{lines_more}
use Rattle.script.proofs.sheet.put_lines.Goals as goal

pub put_place-requires : goal.put_place-requires
put_place-requires c = omega (arith, same_length c.loop-place.invariant.0, c.loop-place.invariant.1)

pub loop-place-preserved : goal.loop-place-preserved
loop-place-preserved c =
    let i = c.loop-place.place in
    let page = c.args.page.now in (
      rw (lines_more page i) (then (lines_to i page) (line_of (cell_at page i)) c.loop-place.invariant.0 c.put_place.ensures.put),
      omega (arith, c.loop-place.invariant.1, c.put_place.ensures.bound),
    )
