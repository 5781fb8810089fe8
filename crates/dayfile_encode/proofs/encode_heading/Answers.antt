use Rattle.std.proofs.Common.{◌≡◌, ap, ◌∙◌, rules}
use Rattle.std.specs.Option.{ok_or}
use Rattle.faults.specs.Places.{plain}
use Rattle.faults.specs.declared.refusal.Refusal.TheVariants.{OutOfRange}
use Rattle.dayfile.specs.Headings.{heading_of}
use Rattle.dayfile.proofs.Made.{made}
use Rattle.decoding.specs.Fields.{two_bytes}
use Rattle.dayfile_encode.proofs.encode_heading.Goals as goal

pub returns-clause-back : goal.returns-clause-back
returns-clause-back c =
    let h = c.args.heading in
    let year : two_bytes c.to_be_bytes.result 0 ≡ h.year = search rules in
    rw c.from.ensures
    (ap (λ y. ok_or (heading_of y h.month h.day h.hours h.accounts h.nodes h.interconnections) (plain OutOfRange)) year
    ∙ ap (λ x. ok_or x (plain OutOfRange)) (made h))
