-- How large the cells of a sheet and of a day can be.
use Rattle.std.proofs.Common.{◌≡◌, ℕ, zero, suc, ◌+◌, ◌-◌, ◌<◌, ◌≤◌, Bool, true, false, cond, ◌&&◌, eqb, leb, List, [], ◌∷◌, ◌++◌, map, length, get_or, ℤ, pos, ◌+ℤ◌, nat_abs, Some, None, sym, refl, ap, ◌∙◌, ⊎_elim, arith}
use borrow.Author.Differences.{ints}
use Rattle.std.specs.List.{range_with_len, AllByRecursion}
use Rattle.std.proofs.lemmas.List.FromFn.{map-range_with_len_more}
use Rattle.std.proofs.lemmas.List.{get_or_past}
use Rattle.std.proofs.lemmas.Bool.{cases_Bool, cases_eq, cases_lt, cond-false, cond-true}
use Rattle.dayfile.specs.Records.{Records}
use Rattle.sharing.specs.Fair.{Fair}
use Rattle.sharing.specs.Signed.{signed_parts}
use Rattle.codes.specs.Codes.{basis_of}
use Rattle.codes.specs.Sums.{sum_over}
use Rattle.codes.specs.declared.code.Basis.TheVariants.{Purchases}
use Rattle.codes.specs.declared.code.Code.{Code}
use Rattle.codes.specs.declared.code.Code.TheVariants.{A1, A2, A3, A4, B1, B2, B3, B4, F1, F2, F3, F4, F5, F6}
use Rattle.amounts.specs.Amounts.{lacking, shared, weights}
use Rattle.charges.specs.Items.{fines, penalties}
use Rattle.price_grid.specs.Found.{first_of}
use Rattle.valuation.specs.Valid.{Sound}
use Rattle.valuation.specs.declared.market.Market.TheVariants.{DayAhead, RealTime}
use Rattle.bounds.proofs.Bounds.{all_fines_le, all_penalties_le, day_small, energy_size, fines_le, imbalance_size, penalties_le, reserve_size, shared_le, size}
use Rattle.amounts.proofs.Adding.{sum_push}
use Rattle.bounds.proofs.Limits.{neg_le, sum_le}
use Rattle.settlement.specs.Days.{item, items, sheets}
use Rattle.settlement.specs.Sheets.{ByKind, amount_of, own, part, sheet, to_accounts, to_nobody}
use Rattle.settlement.proofs.Lacking.{can_share, no_lack, weights_of}
use Rattle.settlement.proofs.PartyRows.{nobody_has}
use Rattle.settlement.proofs.Shares.{part_le, parts_length}

pub amount_le : (n m : ℕ) (row : ByKind) → ((a : ℕ) → nat_abs (row.account a) ≤ m) → ((s : ℕ) → nat_abs (row.system s) ≤ m) → nat_abs row.working_capital ≤ m → nat_abs row.universal_service ≤ m → (q : ℕ) → nat_abs (amount_of n row q) ≤ m
amount_le n m row a s w u q = pick (leb 1 q && leb q n) (leb 41 q && leb q 44) (eqb q 51) (eqb q 52)
  where
    pick : (b c d e : Bool) → nat_abs (cond b (row.account q) (cond c (row.system (q - 40)) (cond d row.working_capital (cond e row.universal_service (pos 0))))) ≤ m
    pick true c d e = a q
    pick false true d e = s (q - 40)
    pick false false true e = w
    pick false false false true = u
    pick false false false false = omega arith

nobody_le : (n m q : ℕ) → nat_abs (amount_of n to_nobody q) ≤ m
nobody_le n m q = rw (nobody_has n q) (omega arith)

module _ (f : ℕ → List ℕ → List ℕ) (fair : Fair f) (r : Records) (s : Sound r) where
  part_small : (h : ℕ) (code : Code) → basis_of code ≡ Purchases → lacking r h ≡ false → (a : ℕ) → nat_abs (part f r h code a) ≤ size r h
  part_small h code p l a =
      let ok = can_share r s h code p (no_lack r h l code) in
      let ws = weights Purchases r h in
      let e : part f r h code a ≡ get_or (signed_parts f (shared r h code) ws) (a - 1) (pos 0) = ap (λ ws. get_or (signed_parts f (shared r h code) ws) (a - 1) (pos 0)) (weights_of r s h code p) in
      rw e
      (⊎_elim
      (λ (k : a - 1 < length ws). omega (arith, part_le f fair (shared r h code) ws ok (a - 1) k, shared_le r s h code))
      (λ (k : length ws ≤ a - 1).
      let z : get_or (signed_parts f (shared r h code) ws) (a - 1) (pos 0) ≡ pos 0 = get_or_past (signed_parts f (shared r h code) ws) (a - 1) (pos 0) (omega (arith, parts_length f fair (shared r h code) ws ok)) in
      rw z (omega arith))
      (cases_lt (a - 1) (length ws)))

  shared_small : (h : ℕ) (code : Code) → basis_of code ≡ Purchases → lacking r h ≡ false → (q : ℕ)
      → nat_abs (amount_of r.heading.accounts (to_accounts (part f r h code)) q) ≤ size r h
  shared_small h code p l q = amount_le r.heading.accounts (size r h) (to_accounts (part f r h code)) (part_small h code p l) (λ _. omega arith) (omega arith) (omega arith) q

  pub sheet_le : (h : ℕ) → lacking r h ≡ false → (code : Code) (q : ℕ) → nat_abs (sheet f r h code q) ≤ size r h
  sheet_le h l A1 q = amount_le r.heading.accounts (size r h) (own r h A1) (energy_size r s DayAhead h) (λ _. omega arith) (omega arith) (omega arith) q
  sheet_le h l A2 q = shared_small h A2 refl l q
  sheet_le h l A3 q = amount_le r.heading.accounts (size r h) (own r h A3) (reserve_size r s DayAhead h) (λ _. omega arith) (omega arith) (omega arith) q
  sheet_le h l A4 q = shared_small h A4 refl l q
  sheet_le h l B1 q = amount_le r.heading.accounts (size r h) (own r h B1) (energy_size r s RealTime h) (λ _. omega arith) (omega arith) (omega arith) q
  sheet_le h l B2 q = shared_small h B2 refl l q
  sheet_le h l B3 q = amount_le r.heading.accounts (size r h) (own r h B3) (reserve_size r s RealTime h) (λ _. omega arith) (omega arith) (omega arith) q
  sheet_le h l B4 q = shared_small h B4 refl l q
  sheet_le h l F1 q = shared_small h F1 refl l q
  sheet_le h l F2 q = amount_le r.heading.accounts (size r h) (own r h F2) (λ _. omega arith) (imbalance_size r s h) (omega arith) (omega arith) q
  sheet_le h l F3 q = nobody_le r.heading.accounts (size r h) q
  sheet_le h l F4 q = nobody_le r.heading.accounts (size r h) q
  sheet_le h l F5 q = nobody_le r.heading.accounts (size r h) q
  sheet_le h l F6 q = nobody_le r.heading.accounts (size r h) q

  -- in some hours counted nothing is lacking
  each_le : (a n : ℕ) → ((h : ℕ) → a ≤ h → h < a + n → lacking r h ≡ false) → (code : Code) (q : ℕ) → AllByRecursion (λ h. nat_abs (sheet f r h code q) ≤ size r h) (range_with_len a n)
  each_le a zero l code q = tt
  each_le a (suc n) l code q = (sheet_le a (l a (omega arith) (omega arith)) code q, each_le (a + 1) n (λ h i j. l h (omega arith) (omega arith)) code q)

  pub sheets_le : (n : ℕ) → ((h : ℕ) → 1 ≤ h → h < 1 + n → lacking r h ≡ false) → (code : Code) (q : ℕ) → nat_abs (sheets f r (range_with_len 1 n) code q) ≤ 44000000000000000
  sheets_le n l code q = omega (arith, sum_le (λ h. sheet f r h code q) (size r) (range_with_len 1 n) (each_le 1 n l code q), day_small r s 1 n)

  -- a code of the sheets has no items
  of_sheets : (n : ℕ) → ((h : ℕ) → 1 ≤ h → h < 1 + n → lacking r h ≡ false) → (code : Code) (q : ℕ) (z : ℤ) → z ≡ pos 0 → nat_abs (sheets f r (range_with_len 1 n) code q +ℤ z) ≤ 50000000000000000
  of_sheets n l code q z e = omega (arith, ints, sheets_le n l code q)

  none_from : (a n q : ℕ) → sum_over (λ h. amount_of r.heading.accounts to_nobody q) (range_with_len a n) ≡ pos 0
  none_from a zero q = refl
  none_from a (suc n) q = (λ i. nobody_has r.heading.accounts q i +ℤ none_from (a + 1) n q i)

  -- a code of the items has nothing in the sheets
  of_items : (n q : ℕ) (x z : ℤ) → x ≡ sum_over (λ h. amount_of r.heading.accounts to_nobody q) (range_with_len 1 n) → nat_abs z ≤ 50000000000000000 → nat_abs (x +ℤ z) ≤ 50000000000000000
  of_items n q x z e h = omega (arith, ints, e, none_from 1 n q)

  pub cell_le : (n : ℕ) → ((h : ℕ) → 1 ≤ h → h < 1 + n → lacking r h ≡ false) → (code : Code) (q : ℕ) → nat_abs (sheets f r (range_with_len 1 n) code q +ℤ item f r code q) ≤ 50000000000000000
  cell_le n l A1 q = of_sheets n l A1 q (item f r A1 q) (nobody_has r.heading.accounts q)
  cell_le n l A2 q = of_sheets n l A2 q (item f r A2 q) (nobody_has r.heading.accounts q)
  cell_le n l A3 q = of_sheets n l A3 q (item f r A3 q) (nobody_has r.heading.accounts q)
  cell_le n l A4 q = of_sheets n l A4 q (item f r A4 q) (nobody_has r.heading.accounts q)
  cell_le n l B1 q = of_sheets n l B1 q (item f r B1 q) (nobody_has r.heading.accounts q)
  cell_le n l B2 q = of_sheets n l B2 q (item f r B2 q) (nobody_has r.heading.accounts q)
  cell_le n l B3 q = of_sheets n l B3 q (item f r B3 q) (nobody_has r.heading.accounts q)
  cell_le n l B4 q = of_sheets n l B4 q (item f r B4 q) (nobody_has r.heading.accounts q)
  cell_le n l F1 q = of_sheets n l F1 q (item f r F1 q) (nobody_has r.heading.accounts q)
  cell_le n l F2 q = of_sheets n l F2 q (item f r F2 q) (nobody_has r.heading.accounts q)
  cell_le n l F3 q = of_items n q (sheets f r (range_with_len 1 n) F3 q) (item f r F3 q) refl (amount_le r.heading.accounts 50000000000000000 (items f r F3) (λ a. neg_le (penalties r a) 50000000000000000 (omega (arith, penalties_le r s a))) (λ _. omega arith) (omega arith) (omega arith) q)
  cell_le n l F4 q = of_items n q (sheets f r (range_with_len 1 n) F4 q) (item f r F4 q) refl (amount_le r.heading.accounts 50000000000000000 (items f r F4) (λ _. omega arith) (λ _. omega arith) (omega (arith, all_penalties_le r s r.heading.accounts)) (omega arith) q)
  cell_le n l F5 q = of_items n q (sheets f r (range_with_len 1 n) F5 q) (item f r F5 q) refl (amount_le r.heading.accounts 50000000000000000 (items f r F5) (λ a. neg_le (fines r a) 50000000000000000 (fines_le r s a)) (λ _. omega arith) (omega arith) (omega arith) q)
  cell_le n l F6 q = of_items n q (sheets f r (range_with_len 1 n) F6 q) (item f r F6 q) refl (amount_le r.heading.accounts 50000000000000000 (items f r F6) (λ _. omega arith) (λ _. omega arith) (omega arith) (all_fines_le r s) q)

-- the first of some numbers counted
pub none_then : (p : ℕ → Bool) (a n : ℕ) → first_of p (range_with_len a n) ≡ None → (h : ℕ) → a ≤ h → h < a + n → p h ≡ false
none_then p a zero e h i j = absurd (omega arith)
none_then p a (suc n) e h i j =
    ⊎_elim
    (λ (t : p a ≡ true). absurd (some_none a (sym (cond-true (p a) _ _ t) ∙ e)))
    (λ (t : p a ≡ false).
    ⊎_elim
    (λ (s : a ≡ h). ap p (sym s) ∙ t)
    (λ (ne : a ≡ h → ⊥). none_then p (a + 1) n (sym (cond-false (p a) _ _ t) ∙ e) h (omega (arith, ne)) (omega arith))
    (cases_eq a h))
    (cases_Bool (p a))
  where
    some_none : (x : ℕ) → Some x ≡ None → ⊥
    some_none x q = let z : ◌≡◌ {A = ℕ} 0 1 = cc in omega arith

-- one hour more
same : {X : Type 0} (xs : List X) → map (λ (x : X). x) xs ≡ xs
same [] = refl
same (x ∷ xs) = ap (λ ys. x ∷ ys) (same xs)

pushed : (a n : ℕ) → range_with_len a (n + 1) ≡ range_with_len a n ++ (a + n) ∷ []
pushed a n = sym (same (range_with_len a (n + 1))) ∙ map-range_with_len_more (λ k. k) a n (a + n) refl ∙ ap (λ xs. xs ++ (a + n) ∷ []) (same (range_with_len a n))

pub sheets_more : (f : ℕ → ℤ) (n : ℕ) → sum_over f (range_with_len 1 (n + 1)) ≡ sum_over f (range_with_len 1 n) +ℤ f (n + 1)
sheets_more f n =
    let one : 1 + n ≡ n + 1 = omega arith in
    ap (sum_over f) (pushed 1 n) ∙ sum_push f (range_with_len 1 n) (1 + n) ∙ ap (λ k. sum_over f (range_with_len 1 n) +ℤ f k) one
