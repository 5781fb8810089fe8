use Rattle.std.proofs.Common.{◌≡◌, ap, ◌∙◌, ⊎_elim}
use Rattle.book.specs.Books.{held}
use Rattle.settlement.specs.Days.{items}
use Rattle.settlement.specs.Sheets.{amount_of, to_nobody}
use Rattle.settlement.proofs.PartyRows.{nobody_has}
use Rattle.settlement.proofs.Rows.{row_none}
use Rattle.settlement.proofs.items.Penalties.add_item.Goals as goal

pub returns-in-A1 : goal.returns-in-A1
returns-in-A1 c = λ parts.
    let r = held c.args.self.now.day.now.book.now in
    let o = items parts r in
    let e : o c.args.code ≡ to_nobody = ⊎_elim (λ e. ap o e) (⊎_elim (λ e. ap o e) (⊎_elim (λ e. ap o e) (λ e. ap o e))) c.in-A1.is in
    row_none c.args.table.now c.args.code _ (λ q. ap (λ k. amount_of r.heading.accounts k q) e ∙ nobody_has r.heading.accounts q)

pub returns-in-B1 : goal.returns-in-B1
returns-in-B1 c = λ parts.
    let r = held c.args.self.now.day.now.book.now in
    let o = items parts r in
    let e : o c.args.code ≡ to_nobody = ⊎_elim (λ e. ap o e) (⊎_elim (λ e. ap o e) (⊎_elim (λ e. ap o e) (λ e. ap o e))) c.in-B1.is in
    row_none c.args.table.now c.args.code _ (λ q. ap (λ k. amount_of r.heading.accounts k q) e ∙ nobody_has r.heading.accounts q)

pub returns-in-F1 : goal.returns-in-F1
returns-in-F1 c = λ parts.
    let r = held c.args.self.now.day.now.book.now in
    let o = items parts r in
    let e : o c.args.code ≡ to_nobody = ⊎_elim (λ e. ap o e) (λ e. ap o e) c.in-F1.is in
    row_none c.args.table.now c.args.code _ (λ q. ap (λ k. amount_of r.heading.accounts k q) e ∙ nobody_has r.heading.accounts q)
