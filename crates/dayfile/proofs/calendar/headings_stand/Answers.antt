use Rattle.dayfile.proofs.Made.{made, same}
use Rattle.dayfile.proofs.calendar.headings_stand.Goals as goal

pub returns-clause-made : goal.returns-clause-made
returns-clause-made c = made

pub returns-clause-same : goal.returns-clause-same
returns-clause-same c = same
