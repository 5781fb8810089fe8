-- Sums over parties and over codes.
use Rattle.std.proofs.Common.{◌≡◌, ℕ, zero, suc, ◌+◌, ◌-◌, ◌<◌, ◌≤◌, cond, ◌&&◌, eqb, leb, List, [], ◌∷◌, length, get_or, ℤ, pos, ◌+ℤ◌, fold, sym, refl, ap, ◌∙◌, arith}
use borrow.Author.Differences.{ints}
use lib.IntN.{+ℤ_assoc, +ℤ_idl, +ℤ_idr}
use Rattle.std.specs.List.{range_with_len}
use Rattle.std.proofs.lemmas.Bool.{and_from, and_left, and_right, cond-false, cond-true, le-leb, lt-leb, ne_eqb}
use Rattle.sharing.specs.Signed.{sumℤ}
use Rattle.codes.specs.Codes.{all_codes}
use Rattle.codes.specs.Parties.{party_numbers}
use Rattle.codes.specs.Sums.{sum_over, total}
use Rattle.codes.specs.declared.code.Code.{Code}
use Rattle.amounts.proofs.Adding.{sum_add, sum_join, sum_same, sum_zero}
use Rattle.settlement.specs.Sheets.{ByKind, amount_of}

-- equal over the numbers counted
pub same_counted : (f g : ℕ → ℤ) (a n : ℕ) → ((k : ℕ) → a ≤ k → k < a + n → f k ≡ g k) → sum_over f (range_with_len a n) ≡ sum_over g (range_with_len a n)
same_counted f g a zero h = refl
same_counted f g a (suc n) h = λ i. h a (omega arith) (omega arith) i +ℤ same_counted f g (a + 1) n (λ k l m. h k (omega arith) (omega arith)) i

zero_counted : (f : ℕ → ℤ) (a n : ℕ) → ((k : ℕ) → a ≤ k → k < a + n → f k ≡ pos 0) → sum_over f (range_with_len a n) ≡ pos 0
zero_counted f a n h = same_counted f (λ _. pos 0) a n h ∙ sum_zero (range_with_len a n)

split_counted : (f : ℕ → ℤ) (a m n : ℕ) → sum_over f (range_with_len a (m + n)) ≡ sum_over f (range_with_len a m) +ℤ sum_over f (range_with_len (a + m) n)
split_counted f a zero n = let e : a ≡ a + 0 = omega arith in let z : 0 + n ≡ n = omega arith in (λ i. sum_over f (range_with_len (e i) (z i))) ∙ sym (+ℤ_idl _)
split_counted f a (suc m) n =
    let e : suc m + n ≡ suc (m + n) = omega arith in
    let g : a + 1 + m ≡ a + suc m = omega arith in
    ap (λ k. sum_over f (range_with_len a k)) e
    ∙ ap (λ z. f a +ℤ z) (split_counted f (a + 1) m n)
    ∙ sym (+ℤ_assoc (f a) (sum_over f (range_with_len (a + 1) m)) (sum_over f (range_with_len (a + 1 + m) n)))
    ∙ ap (λ k. f a +ℤ sum_over f (range_with_len (a + 1) m) +ℤ sum_over f (range_with_len k n)) g

module _ (n : ℕ) (row : ByKind) (few : n ≤ 32) where
  past : (q : ℕ) → n < q → amount_of n row q ≡ cond (leb 41 q && leb q 44) (row.system (q - 40)) (cond (eqb q 51) row.working_capital (cond (eqb q 52) row.universal_service (pos 0)))
  past q h = cond-false (leb 1 q && leb q n) _ _ (and_right (leb 1 q) (leb q n) (lt-leb q n h))

  gap : (q : ℕ) → n < q → q ≤ 32 → amount_of n row q ≡ pos 0
  gap q h k =
      past q h ∙ cond-false (leb 41 q && leb q 44) _ _ (and_left (leb 41 q) (leb q 44) (lt-leb 41 q (omega arith)))
      ∙ cond-false (eqb q 51) _ _ (ne_eqb q 51 (λ e. omega arith)) ∙ cond-false (eqb q 52) _ _ (ne_eqb q 52 (λ e. omega arith))

  pub accounts_sum : sum_over (amount_of n row) (range_with_len 1 n) ≡ sum_over row.account (range_with_len 1 n)
  accounts_sum = same_counted (amount_of n row) row.account 1 n (λ k l h. cond-true (leb 1 k && leb k n) _ _ (and_from (leb 1 k) (leb k n) (le-leb 1 k l) (le-leb k n (omega arith))))

  -- the whole of a row
  pub row_total : sum_over (amount_of n row) party_numbers ≡ sum_over row.account (range_with_len 1 n) +ℤ (sum_over row.system (range_with_len 1 4) +ℤ (row.working_capital +ℤ row.universal_service))
  row_total =
      let e : 32 ≡ n + (32 - n) = omega arith in
      let f = amount_of n row in
      let front : sum_over f (range_with_len 1 32) ≡ sum_over row.account (range_with_len 1 n) =
      ap (λ k. sum_over f (range_with_len 1 k)) e ∙ split_counted f 1 n (32 - n)
      ∙ (λ i. accounts_sum i +ℤ zero_counted f (1 + n) (32 - n) (λ k l h. gap k (omega arith) (omega arith)) i) ∙ +ℤ_idr _ in
      sum_join f (range_with_len 1 32) (41 ∷ 42 ∷ 43 ∷ 44 ∷ 51 ∷ 52 ∷ [])
      ∙ (λ i. front i +ℤ (past 41 (omega arith) i +ℤ (past 42 (omega arith) i +ℤ (past 43 (omega arith) i +ℤ (past 44 (omega arith) i +ℤ (past 51 (omega arith) i +ℤ (past 52 (omega arith) i +ℤ pos 0)))))))
      ∙ ap (λ z. sum_over row.account (range_with_len 1 n) +ℤ z) (regroup (row.system 1) (row.system 2) (row.system 3) (row.system 4) row.working_capital row.universal_service)
    where
      regroup : (a b c d w u : ℤ) → a +ℤ (b +ℤ (c +ℤ (d +ℤ (w +ℤ (u +ℤ pos 0))))) ≡ (a +ℤ (b +ℤ (c +ℤ (d +ℤ pos 0)))) +ℤ (w +ℤ u)
      regroup a b c d w u = omega (arith, ints)

-- a list by its places, counted from a
pub listed_sum : (xs : List ℤ) (a : ℕ) → sum_over (λ q. get_or xs (q - a) (pos 0)) (range_with_len a (length xs)) ≡ sum_over (λ (z : ℤ). z) xs
listed_sum [] a = refl
listed_sum (x ∷ xs) a =
    let z : a - a ≡ 0 = omega arith in
    (λ i. get_or (x ∷ xs) (z i) (pos 0) +ℤ shifted i) ∙ ap (λ y. x +ℤ y) (listed_sum xs (a + 1))
  where
    shifted : sum_over (λ q. get_or (x ∷ xs) (q - a) (pos 0)) (range_with_len (a + 1) (length xs)) ≡ sum_over (λ q. get_or xs (q - (a + 1)) (pos 0)) (range_with_len (a + 1) (length xs))
    shifted = same_counted _ _ (a + 1) (length xs) (λ q l h. let e : q - a ≡ suc (q - (a + 1)) = omega arith in ap (λ k. get_or (x ∷ xs) k (pos 0)) e)

folds : (z : ℤ) (xs : List ℤ) → fold ◌+ℤ◌ z xs ≡ z +ℤ sum_over (λ (y : ℤ). y) xs
folds z [] = sym (+ℤ_idr z)
folds z (x ∷ xs) = folds (z +ℤ x) xs ∙ +ℤ_assoc z x (sum_over (λ (y : ℤ). y) xs)

pub sum_is : (xs : List ℤ) → sumℤ xs ≡ sum_over (λ (y : ℤ). y) xs
sum_is xs = folds (pos 0) xs ∙ +ℤ_idl _

pub total_add : (f g : Code → ℕ → ℤ) → total (λ code q. f code q +ℤ g code q) ≡ total f +ℤ total g
total_add f g =
    sum_same (λ c. sum_over (λ q. f c q +ℤ g c q) party_numbers) (λ c. sum_over (f c) party_numbers +ℤ sum_over (g c) party_numbers) (λ c. sum_add (f c) (g c) party_numbers) all_codes
    ∙ sum_add (λ c. sum_over (f c) party_numbers) (λ c. sum_over (g c) party_numbers) all_codes
