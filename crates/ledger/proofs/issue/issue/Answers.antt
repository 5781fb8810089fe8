use Rattle.std.proofs.Common.{leb, length, take, ap, ◌∙◌}
use Rattle.std.proofs.lemmas.Bool.{and_parts}
use Rattle.ledger.specs.Issues.{issue_answer, issue_leaves}
use Rattle.ledger.specs.Notes.{sound_list}
use Rattle.ledger.proofs.Adding.{rest_notes}
use Rattle.ledger.proofs.Bounds.{takeable}
use Rattle.ledger.proofs.issue.issue.Goals as goal

pub over-rest-requires : goal.over-rest-requires
over-rest-requires c =
    let led = c.args.ledger.now in
    let p = and_parts (leb c.args.notes (length led)) (sound_list c.args.issues (take c.args.notes led)) c.requires.sound in
    takeable c.args.table.now (take c.args.notes led) c.args.issues c.requires.limited p.1 c.requires.left

pub returns : goal.returns
returns c =
    let led = c.args.ledger.now in
    let new = rest_notes led c.args.notes c.args.issues c.args.table.now c.over-rest.result c.over-rest.ensures in
    record {
      answer = c.add_notes.ensures.answer ∙ ap (issue_answer led c.args.notes) new;
      after = c.add_notes.ensures.after ∙ ap (issue_leaves led c.args.notes) new;
    }
