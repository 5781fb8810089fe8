use Rattle.settlement_laws.proofs.Balance.{cells_are_small, days_balance}
use Rattle.settlement_laws.proofs.days_stand.Goals as goal

pub returns : goal.returns
returns c = record { balance = days_balance; small = cells_are_small }
