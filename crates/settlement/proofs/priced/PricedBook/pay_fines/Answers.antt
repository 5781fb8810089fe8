use Rattle.std.proofs.Common.{ap, ◌∙◌, w64}
use Rattle.std.proofs.lemmas.Int.{to_z-of_z}
use Rattle.book.specs.Books.{held}
use Rattle.amounts.specs.Amounts.{owned_by}
use Rattle.bounds.proofs.Facts.{sound_facts}
use Rattle.settlement.proofs.PartyRows.{service_row}
use Rattle.settlement.proofs.Rows.{row_as, row_one}
use Rattle.settlement.proofs.priced.PricedBook.pay_fines.Goals as goal

pub returns : goal.returns
returns c =
    let r = held c.args.self.now.book.now in
    let e = to_z-of_z w64 c.total_fines.result (record { sfits = c.total_fines.type_inv }) ∙ c.total_fines.ensures.value in
    row_as c.args.table.now c.add.new.table c.args.code _ _
    (λ q. ap (owned_by 52 q) e ∙ service_row r.heading.accounts _ (sound_facts r c.args.self.now.sound).few q)
    (row_one c.args.table.now c.add.new.table c.args.code 52 _ c.add.ensures)
