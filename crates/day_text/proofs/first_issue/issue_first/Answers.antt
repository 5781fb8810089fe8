use Rattle.std.proofs.Common.{◌≡◌, ℕ, ◌≤◌, length, is_ok, Ok, sym, refl, ap, ◌∙◌, arith}
use Rattle.codes.specs.Cells.{cell_count}
use Rattle.ledger.specs.Issues.{new_notes}
use Rattle.day_text.proofs.First.{accepted, cells_within, few, in_front, none_sound, then_sound}
use Rattle.day_text.proofs.first_issue.issue_first.Goals as goal

pub issue-requires : goal.issue-requires
issue-requires c =
    let t = c.args.table.now in
    record {
      sound = none_sound c.clear.new.ledger t (omega (arith, c.requires.room, c.clear.auto.ledger)) c.requires.small 0;
      limited = cells_within t c.as_slice.ensures.count c.requires.small;
      left = omega arith;
    }

pub unwrap-requires : goal.unwrap-requires
unwrap-requires c =
    let t = c.args.table.now in
    let led = c.clear.new.ledger in
    let room : cell_count ≤ length led = omega (arith, c.requires.room, c.clear.auto.ledger) in
    ap is_ok (c.issue.ensures.answer ∙ accepted led t room c.requires.small)

pub returns : goal.returns
returns c =
    let t = c.args.table.now in
    let led = c.clear.new.ledger in
    let room : cell_count ≤ length led = omega (arith, c.requires.room, c.clear.auto.ledger) in
    let new = new_notes led 0 0 t in
    let same : Ok c.unwrap.result ≡ Ok (length new) = sym c.unwrap.ensures ∙ c.issue.ensures.answer ∙ accepted led t room c.requires.small in
    let count_is : c.unwrap.result ≡ length new = cc in
    let after = c.issue.ensures.after in
    record {
      notes = rw (count_is, after) (in_front led t room c.requires.small);
      few = omega (arith, count_is, few led t room c.requires.small);
      sound = rw (count_is, after) (then_sound led t room c.requires.small);
    }
