use Rattle.codes.specs.Cells.{cell}
use Rattle.text.proofs.Writing.{piece_more, room_for_piece}
use Rattle.ledger.specs.Steps.{rows_notes}
use Rattle.ledger.proofs.Adding.{no_row}
use Rattle.ledger.proofs.issue.put_rows.Goals as goal

pub put_row-requires : goal.put_row-requires
put_row-requires c =
    room_for_piece (rows_notes c.args.issue (cell c.args.rest.now)) c.args.rows.now no_row c.loop-row.row-index c.loop-row-test.true c.loop-row.invariant c.requires

pub loop-row-preserved : goal.loop-row-preserved
loop-row-preserved c =
    piece_more (rows_notes c.args.issue (cell c.args.rest.now)) c.args.rows.now no_row c.loop-row.row-index c.loop-row-test.true c.loop-row.invariant c.put_row.ensures
