use Rattle.ledger.proofs.Laws.{appended, balanced, borne, halves, kept_sound, reached}
use Rattle.ledger.proofs.issue.issues_stand.Goals as goal

pub returns : goal.returns
returns c = record { append = appended; reach = reached; balances = balanced; bear = borne; keep = kept_sound; halves = halves }
