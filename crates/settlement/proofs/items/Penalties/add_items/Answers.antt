use Rattle.std.proofs.Common.{[], ap, ◌∙◌, arith}
use Rattle.codes.proofs.Codes.{code_in_row}
use Rattle.codes.specs.Codes.{code_index}
use Rattle.codes.proofs.Laws.{index_at}
use Rattle.settlement.proofs.Rows.{upto_all, upto_more, upto_room}
use Rattle.settlement.proofs.items.Penalties.add_items.Goals as goal

pub add_item-requires : goal.add_item-requires
add_item-requires c =
    let i = c.loop-row.row-index in
    upto_room c.args.table.now c.loop-row.table i _ _ (ap code_index (code_in_row _ i (omega arith)) ∙ index_at i (omega arith)) (c.loop-row.invariant (λ _ _. [])) c.requires

pub loop-row-preserved : goal.loop-row-preserved
loop-row-preserved c = λ parts.
    let i = c.loop-row.row-index in
    upto_more c.args.table.now c.loop-row.table c.add_item.new.table i _ _ (ap code_index (code_in_row _ i (omega arith)) ∙ index_at i (omega arith)) (c.loop-row.invariant parts) (c.add_item.ensures parts)

pub returns : goal.returns
returns c = λ parts. upto_all c.args.table.now c.loop-row.table c.loop-row.row-index _ (omega arith) (c.loop-row.invariant parts)
