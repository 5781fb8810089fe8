use Rattle.std.proofs.Common.{sym}
use Rattle.dayfile.proofs.Made.{provides}
use Rattle.dayfile.proofs.heading.Heading.new.Goals as goal

pub returns : goal.returns
returns c = sym (provides _ _ _)
