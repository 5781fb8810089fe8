-- Sheets and days add up to zero, parts are near their proportions, and cells are small.
use Rattle.std.proofs.Common.{◌≡◌, ℕ, zero, suc, ◌+◌, ◌-◌, ◌<◌, ◌≤◌, Bool, true, false, cond, ◌&&◌, eqb, leb, List, length, get_or, ℤ, pos, ◌+ℤ◌, ◌-ℤ◌, ◌*ℤ◌, neg_ℤ, nat_abs, sum, sym, refl, ap, ◌∙◌, subst, arith}
use borrow.Author.Differences.{ints}
use lib.IntN.{+ℤ_idl, +ℤ_idr}
use Rattle.std.specs.List.{range_with_len}
use Rattle.std.proofs.lemmas.Bool.{and_from, cond-true, le-leb}
use Rattle.dayfile.specs.Records.{Records}
use Rattle.dayfile.specs.declared.record.Interconnection.{Interconnection}
use Rattle.dayfile.specs.declared.record.Price.{Price}
use Rattle.sharing.specs.Fair.{Fair}
use Rattle.sharing.specs.Shareable.{shareable}
use Rattle.sharing.specs.Signed.{signed_parts}
use Rattle.sharing.proofs.SignedSums.{signed_whole}
use Rattle.codes.specs.Codes.{basis_of}
use Rattle.codes.specs.Parties.{party_numbers}
use Rattle.codes.specs.Sums.{sum_over, total}
use Rattle.codes.specs.declared.code.Basis.{Basis}
use Rattle.codes.specs.declared.code.Basis.TheVariants.{Own, Purchases}
use Rattle.codes.specs.declared.code.Code.{Code}
use Rattle.codes.specs.declared.code.Code.TheVariants.{A1, A2, A3, A4, B1, B2, B3, B4, F1, F2, F3, F4, F5, F6}
use Rattle.amounts.specs.Amounts.{accounts, energy, exchange, imbalance, lacking, reserve, scopes, shared, value_of_imbalance, weights}
use Rattle.charges.specs.Items.{all_fines, all_penalties, fines, penalties}
use Rattle.valuation.specs.Terms.{exchange_term, fine_mils, imbalance_term, imbalance_value, market_price, net_export}
use Rattle.valuation.specs.Valid.{Listed, Sound, ValidInterconnection}
use Rattle.valuation.specs.declared.market.Market.TheVariants.{DayAhead, RealTime}
use Rattle.amounts.proofs.Adding.{by_owner, sum_add, sum_neg, sum_same, sum_zero}
use Rattle.bounds.proofs.Bounds.{weights_length}
use Rattle.bounds.proofs.Facts.{all_map, sound_facts}
use Rattle.settlement.specs.Days.{item, items, sheets}
use Rattle.settlement_laws.specs.Laws.{CellsAreSmall, DaysBalance, PartsAreNear, SharesAreWhole, SheetsBalance}
use Rattle.settlement.specs.Sheets.{ByKind, amount_of, on_basis, own, part, sheet, to_accounts}
use Rattle.settlement.proofs.Lacking.{can_share, no_lack, weights_of}
use Rattle.settlement_laws.proofs.Rings.{mul_subℤ}
use Rattle.settlement.proofs.Shares.{part_near, parts_length}
use Rattle.settlement.proofs.Small.{cell_le, none_then}
use Rattle.settlement_laws.proofs.Totals.{accounts_sum, listed_sum, row_total, sum_is, total_add}

regroup : (pd rx re rd de : ℤ) → rx ≡ re -ℤ rd → pd +ℤ rx ≡ pd +ℤ re -ℤ rd -ℤ de +ℤ de
regroup pd rx re rd de h = omega (arith, ints)

-- one interconnection's amounts
tie : (ps : List Price) (x : Interconnection) → exchange_term ps DayAhead x +ℤ exchange_term ps RealTime x ≡ imbalance_value ps x +ℤ imbalance_term x
tie ps x =
    regroup (market_price ps DayAhead x.node x.hour *ℤ net_export DayAhead x) (exchange_term ps RealTime x) (market_price ps RealTime x.node x.hour *ℤ net_export RealTime x) (market_price ps RealTime x.node x.hour *ℤ net_export DayAhead x) (imbalance_term x)
    (mul_subℤ (market_price ps RealTime x.node x.hour) (net_export RealTime x) (net_export DayAhead x))

tie_counted : (ps : List Price) (h : ℕ) (x : Interconnection) → cond (eqb x.hour h) (exchange_term ps DayAhead x) (pos 0) +ℤ cond (eqb x.hour h) (exchange_term ps RealTime x) (pos 0) ≡ cond (eqb x.hour h) (imbalance_value ps x) (pos 0) +ℤ cond (eqb x.hour h) (imbalance_term x) (pos 0)
tie_counted ps h x = both (eqb x.hour h)
  where
    both : (b : Bool) → cond b (exchange_term ps DayAhead x) (pos 0) +ℤ cond b (exchange_term ps RealTime x) (pos 0) ≡ cond b (imbalance_value ps x) (pos 0) +ℤ cond b (imbalance_term x) (pos 0)
    both true = tie ps x
    both false = refl

-- the exchange is the value of the imbalance and the imbalances of the systems
ties : (r : Records) (h : ℕ) → Sound r → exchange r DayAhead h +ℤ exchange r RealTime h ≡ value_of_imbalance r h +ℤ sum_over (imbalance r h) (range_with_len 1 4)
ties r h s =
    let d : Interconnection → ℤ = λ x. cond (eqb x.hour h) (exchange_term r.prices DayAhead x) (pos 0) in
    let e : Interconnection → ℤ = λ x. cond (eqb x.hour h) (exchange_term r.prices RealTime x) (pos 0) in
    let v : Interconnection → ℤ = λ x. cond (eqb x.hour h) (imbalance_value r.prices x) (pos 0) in
    let m : Interconnection → ℤ = λ x. cond (eqb x.hour h) (imbalance_term x) (pos 0) in
    let whole : sum_over (imbalance r h) (range_with_len 1 4) ≡ sum_over m r.interconnections =
    by_owner (λ x. x.system) m 1 4 r.interconnections (all_map ValidInterconnection _ (λ x w. (w.first, omega (arith, w.last))) r.interconnections s.interconnections) in
    sym (sum_add d e r.interconnections) ∙ sum_same _ _ (tie_counted r.prices h) r.interconnections ∙ sum_add v m r.interconnections
    ∙ ap (λ z. value_of_imbalance r h +ℤ z) (sym whole)

module _ (f : ℕ → List ℕ → List ℕ) (fair : Fair f) (r : Records) (s : Sound r) where
  -- the accounts' parts of a shared amount
  parts_sum : (h : ℕ) (code : Code) → basis_of code ≡ Purchases → lacking r h ≡ false → sum_over (part f r h code) (accounts r) ≡ shared r h code
  parts_sum h code p l =
      let ok = can_share r s h code p (no_lack r h l code) in
      let z = shared r h code in
      let ws = weights Purchases r h in
      let n : r.heading.accounts ≡ length (signed_parts f z ws) = sym (parts_length f fair z ws ok ∙ weights_length r h) in
      (λ i. sum_over (λ a. get_or (signed_parts f z (weights_of r s h code p i)) (a - 1) (pos 0)) (range_with_len 1 (n i)))
      ∙ listed_sum (signed_parts f z ws) 1 ∙ sym (sum_is (signed_parts f z ws)) ∙ signed_whole f fair z ws ok

  abbrev n : ℕ
  n = r.heading.accounts

  zero_accounts : sum_over (λ (a : ℕ). pos 0) (range_with_len 1 n) ≡ pos 0
  zero_accounts = sum_zero (range_with_len 1 n)

  -- the row of a code that only accounts have
  accounts_row : (g : ℕ → ℤ) → sum_over (amount_of n (to_accounts g)) party_numbers ≡ sum_over g (range_with_len 1 n)
  accounts_row g = row_total n (to_accounts g) s.few ∙ +ℤ_idr _

  nobody_row : (row : ByKind) → sum_over row.account (range_with_len 1 n) ≡ pos 0 → sum_over row.system (range_with_len 1 4) ≡ pos 0 → row.working_capital ≡ pos 0 → row.universal_service ≡ pos 0 → sum_over (amount_of n row) party_numbers ≡ pos 0
  nobody_row row a b c d = row_total n row s.few ∙ (λ i. a i +ℤ (b i +ℤ (c i +ℤ d i)))

  adds : (a1 a2 a3 a4 b1 b2 b3 b4 f1 f2 f3 f4 f5 f6 o1 p1 o3 p3 x y v i : ℤ) →
      a1 ≡ o1 → a2 ≡ x -ℤ o1 → a3 ≡ o3 → a4 ≡ neg_ℤ o3 → b1 ≡ p1 → b2 ≡ y -ℤ p1 → b3 ≡ p3 → b4 ≡ neg_ℤ p3 → f1 ≡ neg_ℤ v →
      f2 ≡ neg_ℤ i → f3 ≡ pos 0 → f4 ≡ pos 0 → f5 ≡ pos 0 → f6 ≡ pos 0 → x +ℤ y ≡ v +ℤ i →
      a1 +ℤ (a2 +ℤ (a3 +ℤ (a4 +ℤ (b1 +ℤ (b2 +ℤ (b3 +ℤ (b4 +ℤ (f1 +ℤ (f2 +ℤ (f3 +ℤ (f4 +ℤ (f5 +ℤ (f6 +ℤ pos 0))))))))))))) ≡ pos 0
  adds a1 a2 a3 a4 b1 b2 b3 b4 f1 f2 f3 f4 f5 f6 o1 p1 o3 p3 x y v i h1 h2 h3 h4 h5 h6 h7 h8 h9 h10 h11 h12 h13 h14 h15 =
      pair a1 a2 o1 x _ h1 h2 ∙ ap (λ z. x +ℤ z)
      (pair0 a3 a4 o3 _ h3 h4 ∙ pair b1 b2 p1 y _ h5 h6 ∙ ap (λ z. y +ℤ z)
      (pair0 b3 b4 p3 _ h7 h8 ∙ ap (λ z. f1 +ℤ (f2 +ℤ z)) (drops f3 _ h11 ∙ drops f4 _ h12 ∙ drops f5 _ h13 ∙ drops f6 _ h14)))
      ∙ ends x y v i f1 f2 h9 h10 h15
    where
      pair : (a b o x rest : ℤ) → a ≡ o → b ≡ x -ℤ o → a +ℤ (b +ℤ rest) ≡ x +ℤ rest
      pair a b o x rest g h = omega (arith, ints)

      pair0 : (a b o rest : ℤ) → a ≡ o → b ≡ neg_ℤ o → a +ℤ (b +ℤ rest) ≡ rest
      pair0 a b o rest g h = omega (arith, ints)

      drops : (a rest : ℤ) → a ≡ pos 0 → a +ℤ rest ≡ rest
      drops a rest h = omega (arith, ints)

      ends : (x y v i f g : ℤ) → f ≡ neg_ℤ v → g ≡ neg_ℤ i → x +ℤ y ≡ v +ℤ i → x +ℤ (y +ℤ (f +ℤ (g +ℤ pos 0))) ≡ pos 0
      ends x y v i f g p q h = omega (arith, ints)

  shared_row : (h : ℕ) (code : Code) → basis_of code ≡ Purchases → lacking r h ≡ false → sum_over (amount_of n (to_accounts (part f r h code))) party_numbers ≡ shared r h code
  shared_row h code p l = accounts_row (part f r h code) ∙ parts_sum h code p l

  sheet_total : (h : ℕ) → lacking r h ≡ false → total (sheet f r h) ≡ pos 0
  sheet_total h l =
      let zs = λ (code : Code). sum_over (sheet f r h code) party_numbers in
      let i = sum_over (imbalance r h) (range_with_len 1 4) in
      let f2 : zs F2 ≡ neg_ℤ i = row_total n (own r h F2) s.few ∙ (λ k. zero_accounts k +ℤ (sum_neg (imbalance r h) (range_with_len 1 4) k +ℤ pos 0)) ∙ +ℤ_idl _ ∙ +ℤ_idr _ in
      adds (zs A1) (zs A2) (zs A3) (zs A4) (zs B1) (zs B2) (zs B3) (zs B4) (zs F1) (zs F2) (zs F3) (zs F4) (zs F5) (zs F6)
      (sum_over (energy r DayAhead h) (accounts r)) (sum_over (energy r RealTime h) (accounts r)) (sum_over (reserve r DayAhead h) (accounts r)) (sum_over (reserve r RealTime h) (accounts r))
      (exchange r DayAhead h) (exchange r RealTime h) (value_of_imbalance r h) i
      (accounts_row (energy r DayAhead h)) (shared_row h A2 refl l) (accounts_row (reserve r DayAhead h)) (shared_row h A4 refl l)
      (accounts_row (energy r RealTime h)) (shared_row h B2 refl l) (accounts_row (reserve r RealTime h)) (shared_row h B4 refl l) (shared_row h F1 refl l)
      f2 (nobody_row (own r h F3) zero_accounts refl refl refl) (nobody_row (own r h F4) zero_accounts refl refl refl) (nobody_row (own r h F5) zero_accounts refl refl refl) (nobody_row (own r h F6) zero_accounts refl refl refl)
      (ties r h s)

  sheets_total : (a m : ℕ) → ((h : ℕ) → a ≤ h → h < a + m → lacking r h ≡ false) → total (sheets f r (range_with_len a m)) ≡ pos 0
  sheets_total a zero l = refl
  sheets_total a (suc m) l =
      total_add (sheet f r a) (sheets f r (range_with_len (a + 1) m))
      ∙ (λ i. sheet_total a (l a (omega arith) (omega arith)) i +ℤ sheets_total (a + 1) m (λ h u v. l h (omega arith) (omega arith)) i)

  items_total : total (item f r) ≡ pos 0
  items_total =
      let zs = λ (code : Code). sum_over (item f r code) party_numbers in
      let z : (code : Code) → items f r code ≡ items f r A1 → zs code ≡ pos 0 = λ code e.
      ap (λ row. sum_over (amount_of n row) party_numbers) e ∙ nobody_row (items f r A1) zero_accounts refl refl refl in
      let f3 : zs F3 ≡ neg_ℤ (all_penalties r) = accounts_row (λ a. neg_ℤ (penalties r a)) ∙ sum_neg (penalties r) (accounts r) in
      let f4 : zs F4 ≡ all_penalties r = row_total n (items f r F4) s.few ∙ (λ k. zero_accounts k +ℤ (pos 0 +ℤ (all_penalties r +ℤ pos 0))) ∙ funds (all_penalties r) in
      let f5 : zs F5 ≡ neg_ℤ (all_fines r) = accounts_row (λ a. neg_ℤ (fines r a)) ∙ sum_neg (fines r) (accounts r)
      ∙ ap neg_ℤ (by_owner (λ x. x.account) fine_mils 1 n r.fines (all_map (λ x. Listed r x.account) _ (λ x p. (p.0, omega (arith, p.1))) r.fines s.fine_accounts)) in
      let f6 : zs F6 ≡ all_fines r = row_total n (items f r F6) s.few ∙ (λ k. zero_accounts k +ℤ (pos 0 +ℤ (pos 0 +ℤ all_fines r))) ∙ service (all_fines r) in
      (λ i. z A1 refl i +ℤ (z A2 refl i +ℤ (z A3 refl i +ℤ (z A4 refl i +ℤ (z B1 refl i +ℤ (z B2 refl i +ℤ (z B3 refl i +ℤ (z B4 refl i +ℤ (z F1 refl i +ℤ (z F2 refl i +ℤ (f3 i +ℤ (f4 i +ℤ (f5 i +ℤ (f6 i +ℤ pos 0))))))))))))))
      ∙ ten (neg_ℤ (all_penalties r) +ℤ (all_penalties r +ℤ (neg_ℤ (all_fines r) +ℤ (all_fines r +ℤ pos 0)))) ∙ four (all_penalties r) (all_fines r)
    where
      funds : (p : ℤ) → pos 0 +ℤ (pos 0 +ℤ (p +ℤ pos 0)) ≡ p
      funds p = omega (arith, ints)

      service : (p : ℤ) → pos 0 +ℤ (pos 0 +ℤ (pos 0 +ℤ p)) ≡ p
      service p = omega (arith, ints)

      ten : (z : ℤ) → pos 0 +ℤ (pos 0 +ℤ (pos 0 +ℤ (pos 0 +ℤ (pos 0 +ℤ (pos 0 +ℤ (pos 0 +ℤ (pos 0 +ℤ (pos 0 +ℤ (pos 0 +ℤ z))))))))) ≡ z
      ten z = +ℤ_idl _ ∙ +ℤ_idl _ ∙ +ℤ_idl _ ∙ +ℤ_idl _ ∙ +ℤ_idl _ ∙ +ℤ_idl _ ∙ +ℤ_idl _ ∙ +ℤ_idl _ ∙ +ℤ_idl _ ∙ +ℤ_idl z

      four : (p q : ℤ) → neg_ℤ p +ℤ (p +ℤ (neg_ℤ q +ℤ (q +ℤ pos 0))) ≡ pos 0
      four p q = omega (arith, ints)

pub sheets_balance : SheetsBalance
sheets_balance f fair r h e l = sheet_total f fair r (sound_facts r e) h l

pub days_balance : DaysBalance
days_balance f fair r e l =
    let s = sound_facts r e in
    total_add (sheets f r (scopes r.heading)) (item f r)
    ∙ (λ i. sheets_total f fair r s 1 r.heading.hours (none_then (lacking r) 1 r.heading.hours l) i +ℤ items_total f fair r s i)

pub cells_are_small : CellsAreSmall
cells_are_small f fair r e l code q = cell_le f fair r (sound_facts r e) r.heading.hours (none_then (lacking r) 1 r.heading.hours l) code q

on_purchases : (f : ℕ → List ℕ → List ℕ) (r : Records) (h : ℕ) (code : Code) → basis_of code ≡ Purchases → (q : ℕ) → sheet f r h code q ≡ amount_of r.heading.accounts (to_accounts (part f r h code)) q
on_purchases f r h code p q = ap (λ k. amount_of r.heading.accounts (on_basis k f r h code) q) p

-- a basis other than that of what is not shared
based : (k : Basis) → (k ≡ Own → ⊥) → k ≡ Purchases
based Own no_own = absurd (no_own refl)
based Purchases no_own = refl

pub shares_are_whole : SharesAreWhole
shares_are_whole f fair r h e l code shares =
    let s = sound_facts r e in
    let p = based (basis_of code) shares in
    sum_same _ _ (on_purchases f r h code p) (accounts r) ∙ accounts_sum r.heading.accounts (to_accounts (part f r h code)) s.few ∙ parts_sum f fair r s h code p l

weighed : (r : Records) (h : ℕ) (k : Basis) → 0 < sum (weights k r h) → k ≡ Purchases
weighed r h Own w = absurd (omega arith)
weighed r h Purchases w = refl

pub parts_are_near : PartsAreNear
parts_are_near f fair r h e l code w a low high =
    let s = sound_facts r e in
    let p = weighed r h (basis_of code) w in
    let ws = weights (basis_of code) r h in
    let z = shared r h code in
    let same = weights_of r s h code p in
    let ok = subst (λ (xs : List ℕ). shareable (nat_abs z) xs ≡ true) (sym same) (can_share r s h code p (no_lack r h l code)) in
    let is : sheet f r h code a ≡ get_or (signed_parts f z ws) (a - 1) (pos 0) =
    on_purchases f r h code p a ∙ cond-true (leb 1 a && leb a r.heading.accounts) _ _ (and_from (leb 1 a) (leb a r.heading.accounts) (le-leb 1 a low) (le-leb a r.heading.accounts high)) in
    rw is (part_near f fair z ws ok w (a - 1) (omega (arith, ap length same, weights_length r h)))
