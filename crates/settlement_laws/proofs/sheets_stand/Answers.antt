use Rattle.settlement_laws.proofs.Balance.{parts_are_near, shares_are_whole, sheets_balance}
use Rattle.settlement_laws.proofs.sheets_stand.Goals as goal

pub returns : goal.returns
returns c = record { balance = sheets_balance; whole = shares_are_whole; near = parts_are_near }
