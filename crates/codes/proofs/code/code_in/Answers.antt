use Rattle.codes.proofs.Codes.{code_in_row}
use Rattle.codes.proofs.code.code_in.Goals as goal

pub returns : goal.returns
returns c = code_in_row _ c.args.place c.requires
