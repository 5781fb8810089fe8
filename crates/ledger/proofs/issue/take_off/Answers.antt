use Rattle.std.proofs.Common.{◌∙◌, w64}
use Rattle.std.proofs.lemmas.Int.{to_z-of_z}
use Rattle.std.proofs.lemmas.Bool.{false≢true}
use Rattle.codes.specs.Codes.{code_of}
use Rattle.ledger.proofs.Counting.{codes_known, found, lost, no_code, number_of, off, small_off}
use Rattle.ledger.proofs.issue.take_off.Goals as goal

pub less-left-requires : goal.less-left-requires
less-left-requires c =
    let n = c.args.note.now in
    small_off c.args.rest.now n c.in-Ok.code c.requires (number_of n.code c.in-Ok.code (found (code_of n.code) _ c.in-Ok.code c.in-Ok.ensures))

pub returns-in-Ok : goal.returns-in-Ok
returns-in-Ok c =
    let n = c.args.note.now in
    record {
      each =
          off c.args.rest.now c.put.new.self n c.in-Ok.code (number_of n.code c.in-Ok.code (found (code_of n.code) _ c.in-Ok.code c.in-Ok.ensures)) _
          (to_z-of_z w64 c.less-left.result (record { sfits = c.less-left.type_inv }) ∙ c.less-left.ensures) (codes_known n c.requires.coded).1 c.put.ensures;
    }

pub returns-in_default : goal.returns-in_default
returns-in_default c =
    let n = c.args.note.now in
    absurd (false≢true (no_code n c.requires.coded (lost (code_of n.code) _ c.in_default.field-0 c.in_default.ensures)))
