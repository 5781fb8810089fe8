use Rattle.std.proofs.Common.{ap, ◌∙◌, arith}
use Rattle.book.specs.Books.{held}
use Rattle.codes.proofs.Codes.{code_in_row}
use Rattle.codes.specs.Codes.{code_index}
use Rattle.codes.proofs.Laws.{index_at}
use Rattle.settlement.proofs.Lacking.{no_lack}
use Rattle.settlement.proofs.Rows.{upto_all, upto_more, upto_room}
use Rattle.settlement.proofs.priced.PricedHour.add_sheet.Goals as goal

pub add_code-requires : goal.add_code-requires
add_code-requires g c =
    let i = c.loop-row.row-index in
    record {
      borne = no_lack (held c.args.self.now.day.now.book.now) c.args.self.now.hour c.requires.borne _;
      room = upto_room c.args.table.now c.loop-row.table i _ _ (ap code_index (code_in_row _ i (omega arith)) ∙ index_at i (omega arith)) c.loop-row.invariant c.requires.room;
    }

pub loop-row-preserved : goal.loop-row-preserved
loop-row-preserved g c =
    let i = c.loop-row.row-index in
    upto_more c.args.table.now c.loop-row.table c.add_code.new.table i _ _ (ap code_index (code_in_row _ i (omega arith)) ∙ index_at i (omega arith)) c.loop-row.invariant c.add_code.ensures

pub returns : goal.returns
returns g c = upto_all c.args.table.now c.loop-row.table c.loop-row.row-index _ (omega arith) c.loop-row.invariant
