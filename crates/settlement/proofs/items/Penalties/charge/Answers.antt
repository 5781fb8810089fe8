use Rattle.std.proofs.Common.{◌≡◌, ℕ, ◌+◌, ◌-◌, ◌<◌, ◌≤◌, cond, ◌&&◌, leb, length, get_or, take, pos, neg_ℤ, sym, ap, ◌∙◌, subst, arith}
use Rattle.book.specs.Books.{held}
use Rattle.charges.specs.Items.{penalties}
use Rattle.bounds.proofs.Facts.{sound_facts}
use Rattle.bounds.proofs.Limits.{neg_le}
use Rattle.settlement.specs.Grown.{Penalized}
use Rattle.settlement.proofs.Charged.{charged_small}
use Rattle.settlement.proofs.PartyRows.{accounts_have, accounts_same}
use Rattle.settlement.proofs.Rows.{row_as}
use Rattle.settlement.proofs.items.Penalties.charge.Goals as goal

pub negate-requires : goal.negate-requires
negate-requires c =
    let d = c.args.self.now.day.now in
    let r = held d.book.now in
    let p = subst (λ (n : ℕ). Penalized r (take n c.args.self.now.amounts)) (sym c.accounts.ensures.value) c.args.self.now.penalized in
    charged_small r (sound_facts r d.sound) _ p

pub add_listed-requires : goal.add_listed-requires
add_listed-requires c =
    let d = c.args.self.now.day.now in
    let r = held d.book.now in
    let s = sound_facts r d.sound in
    let xs = take c.accounts.result c.args.self.now.amounts in
    let p = subst (λ (n : ℕ). Penalized r (take n c.args.self.now.amounts)) (sym c.accounts.ensures.value) c.args.self.now.penalized in
    let n : length c.negate.new.amounts ≡ length xs = c.negate.auto.amounts in
    record {
      few = omega (arith, n, p.long, s.few);
      small = λ k h.
          let l : k < length xs = omega (arith, h, n) in
          rw (c.negate.ensures k l) (neg_le (get_or xs k (pos 0)) 100000000000000000 (omega (arith, charged_small r s xs p k l)));
      room = c.requires;
    }

pub returns : goal.returns
returns c =
    let d = c.args.self.now.day.now in
    let r = held d.book.now in
    let cs = c.negate.new.amounts in
    let xs = take c.accounts.result c.args.self.now.amounts in
    let p = subst (λ (n : ℕ). Penalized r (take n c.args.self.now.amounts)) (sym c.accounts.ensures.value) c.args.self.now.penalized in
    let n : length cs ≡ r.heading.accounts = c.negate.auto.amounts ∙ p.long in
    let at : (a : ℕ) → 1 ≤ a → a ≤ r.heading.accounts → get_or cs (a - 1) (pos 0) ≡ neg_ℤ (penalties r a) = λ a l h.
    let k : a - 1 < length xs = omega (arith, p.long) in
    let e : a - 1 + 1 ≡ a = omega arith in
    c.negate.ensures (a - 1) k ∙ ap neg_ℤ (p.each (a - 1) k ∙ ap (penalties r) e) in
    row_as c.args.table.now c.add_listed.new.table c.args.code _ _
    (λ q. (λ i. cond (leb 1 q && leb q (n i)) (get_or cs (q - 1) (pos 0)) (pos 0))
    ∙ sym (accounts_have r.heading.accounts (λ a. get_or cs (a - 1) (pos 0)) q)
    ∙ accounts_same r.heading.accounts (λ a. get_or cs (a - 1) (pos 0)) (λ a. neg_ℤ (penalties r a)) at q)
    c.add_listed.ensures
