use Rattle.std.proofs.Common.{◌≡◌, ap, ◌∙◌, ⊎_elim}
use Rattle.book.specs.Books.{held}
use Rattle.settlement.specs.Sheets.{amount_of, own, to_nobody}
use Rattle.settlement.proofs.PartyRows.{nobody_has}
use Rattle.settlement.proofs.Rows.{row_none}
use Rattle.settlement.proofs.priced.PricedHour.add_own.Goals as goal

pub returns-in-A2 : goal.returns-in-A2
returns-in-A2 c =
    let r = held c.args.self.now.day.now.book.now in
    let o = own r c.args.self.now.hour in
    let e : o c.args.code ≡ to_nobody = ⊎_elim (λ e. ap o e) (⊎_elim (λ e. ap o e) (⊎_elim (λ e. ap o e) (λ e. ap o e))) c.in-A2.is in
    row_none c.args.table.now c.args.code _ (λ q. ap (λ k. amount_of r.heading.accounts k q) e ∙ nobody_has r.heading.accounts q)

pub returns-in-F1 : goal.returns-in-F1
returns-in-F1 c =
    let r = held c.args.self.now.day.now.book.now in
    let o = own r c.args.self.now.hour in
    let e : o c.args.code ≡ to_nobody = ⊎_elim (λ e. ap o e) (⊎_elim (λ e. ap o e) (⊎_elim (λ e. ap o e) (⊎_elim (λ e. ap o e) (λ e. ap o e)))) c.in-F1.is in
    row_none c.args.table.now c.args.code _ (λ q. ap (λ k. amount_of r.heading.accounts k q) e ∙ nobody_has r.heading.accounts q)
