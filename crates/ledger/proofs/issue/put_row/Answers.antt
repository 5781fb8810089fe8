use Rattle.std.proofs.Common.{get_or, sym, ◌∙◌, subst, w64}
use Rattle.std.proofs.lemmas.Int.{to_z-of_z}
use Rattle.codes.specs.Cells.{cell}
use Rattle.text.specs.Written.{HasRoom, Puts}
use Rattle.text.proofs.Writing.{piece_more, room_for_piece}
use Rattle.ledger.specs.Issues.{note_for, row_notes}
use Rattle.ledger.proofs.issue.put_row.Goals as goal

pub put_note-requires : goal.put_note-requires
unfolding row_notes
put_note-requires c =
    let ps = c.args.parties.now in
    let i = c.loop-party.party-index in
    subst (λ z. HasRoom c.loop-party.out (note_for c.args.issue c.args.code (get_or ps i 0) z)) (sym (to_z-of_z w64 c.amount.result (record { sfits = c.amount.type_inv }) ∙ c.amount.ensures))
    (room_for_piece (λ party. note_for c.args.issue c.args.code party (cell c.args.rest.now c.args.code party)) ps 0 i c.loop-party-test.true c.loop-party.invariant c.requires)

pub loop-party-preserved : goal.loop-party-preserved
unfolding row_notes
loop-party-preserved c =
    let ps = c.args.parties.now in
    let i = c.loop-party.party-index in
    piece_more (λ party. note_for c.args.issue c.args.code party (cell c.args.rest.now c.args.code party)) ps 0 i c.loop-party-test.true c.loop-party.invariant
    (subst (λ z. Puts c.loop-party.out c.put_note.new.out (note_for c.args.issue c.args.code (get_or ps i 0) z)) (to_z-of_z w64 c.amount.result (record { sfits = c.amount.type_inv }) ∙ c.amount.ensures) c.put_note.ensures)
