-- The amounts of a row by kinds of party.
use Rattle.std.proofs.Common.{◌≡◌, ℕ, ◌-◌, ◌≤◌, Bool, true, false, cond, ◌&&◌, eqb, leb, List, ℤ, pos, neg_ℤ, sym, refl, ap, ◌∙◌, ⊎_elim, arith}
use Rattle.std.specs.List.{AllByRecursion}
use Rattle.std.proofs.lemmas.Bool.{and_from, and_parts, and_right, cases_Bool, cases_eq, cond-false, cond-true, eq-eqb, le-leb, leb-true, lt-leb, ne_eqb}
use Rattle.codes.specs.Parties.{system_party}
use Rattle.codes.specs.Sums.{sum_over}
use Rattle.amounts.specs.Amounts.{owned_by}
use Rattle.amounts.proofs.Adding.{owns_nothing, sum_neg, sum_same}
use Rattle.bounds.proofs.Facts.{all_map}
use Rattle.settlement.specs.Sheets.{amount_of, to_accounts, to_nobody, to_systems, to_universal_service, to_working_capital}

abbrev is_account : ℕ → ℕ → Bool
is_account n q = leb 1 q && leb q n

abbrev is_system : ℕ → Bool
is_system q = leb 41 q && leb q 44

zeros : (b c d : Bool) → cond b (pos 0) (cond c (pos 0) (cond d (pos 0) (pos 0))) ≡ pos 0
zeros true c d = refl
zeros false true d = refl
zeros false false true = refl
zeros false false false = refl

pub nobody_has : (n q : ℕ) → amount_of n to_nobody q ≡ pos 0
nobody_has n q = four (is_account n q)
  where
    four : (a : Bool) → cond a (pos 0) (cond (is_system q) (pos 0) (cond (eqb q 51) (pos 0) (cond (eqb q 52) (pos 0) (pos 0)))) ≡ pos 0
    four true = refl
    four false = zeros (is_system q) (eqb q 51) (eqb q 52)

-- amounts of accounts alone
pub accounts_have : (n : ℕ) (f : ℕ → ℤ) (q : ℕ) → amount_of n (to_accounts f) q ≡ cond (is_account n q) (f q) (pos 0)
accounts_have n f q = ap (cond (is_account n q) (f q)) (zeros (is_system q) (eqb q 51) (eqb q 52))

-- what records add up to for the account asked for, where every record has one of n accounts
pub account_row : {X : Type 0} (owner : X → ℕ) (f : X → ℤ) (n : ℕ) (xs : List X) → AllByRecursion (λ x. (1 ≤ owner x) × (owner x ≤ n)) xs → (q : ℕ)
    → sum_over (λ x. owned_by (owner x) q (f x)) xs ≡ amount_of n (to_accounts (λ a. sum_over (λ x. owned_by (owner x) a (f x)) xs)) q
account_row {X = X} owner f n xs h q =
    ⊎_elim
    (λ (s : is_account n q ≡ true). sym (cond-true (is_account n q) _ _ s))
    (λ (s : is_account n q ≡ false).
    owns_nothing owner f q xs (all_map (λ x. (1 ≤ owner x) × (owner x ≤ n)) _ (λ x p e. outside s x p e) xs h)
    ∙ sym (cond-false (is_account n q) _ _ s))
    (cases_Bool (is_account n q))
    ∙ sym (accounts_have n (λ a. sum_over (λ x. owned_by (owner x) a (f x)) xs) q)
  where
    outside : is_account n q ≡ false → (x : X) → (1 ≤ owner x) × (owner x ≤ n) → owner x ≡ q → ⊥
    outside s x p e =
        let yes : is_account n q ≡ true = and_from (leb 1 q) (leb q n) (le-leb 1 q (omega (arith, p.0, e))) (le-leb q n (omega (arith, p.1, e))) in
        let z : ◌≡◌ {A = Bool} true false = sym yes ∙ s in
        let one : ◌≡◌ {A = ℕ} 0 1 = cc in
        omega arith

-- what records add up to for the external system asked for
pub system_row : {X : Type 0} (owner : X → ℕ) (f : X → ℤ) (n : ℕ) (xs : List X) → n ≤ 32 → AllByRecursion (λ x. (1 ≤ owner x) × (owner x ≤ 4)) xs → (q : ℕ)
    → sum_over (λ x. owned_by (system_party (owner x)) q (f x)) xs ≡ amount_of n (to_systems (λ s. sum_over (λ x. owned_by (owner x) s (f x)) xs)) q
system_row {X = X} owner f n xs few h q =
    ⊎_elim
    (λ (s : is_system q ≡ true).
    let p = and_parts (leb 41 q) (leb q 44) s in
    let low = leb-true 41 q p.0 in
    sum_same _ _ (λ x. ap (λ b. cond b (f x) (pos 0)) (same_test x low)) xs
    ∙ sym (cond-false (is_account n q) _ _ (and_right (leb 1 q) (leb q n) (lt-leb q n (omega (arith, few, low)))) ∙ cond-true (is_system q) _ _ s))
    (λ (s : is_system q ≡ false).
    owns_nothing (λ x. system_party (owner x)) f q xs (all_map (λ x. (1 ≤ owner x) × (owner x ≤ 4)) _ (λ x p e. outside s x p e) xs h)
    ∙ sym (three s (is_account n q)))
    (cases_Bool (is_system q))
  where
    same_test : (x : X) → 41 ≤ q → eqb (system_party (owner x)) q ≡ eqb (owner x) (q - 40)
    same_test x low =
        ⊎_elim
        (λ (e : owner x ≡ q - 40). eq-eqb (system_party (owner x)) q (omega arith) ∙ sym (eq-eqb (owner x) (q - 40) e))
        (λ (ne : owner x ≡ q - 40 → ⊥). ne_eqb (system_party (owner x)) q (λ e. ne (omega arith)) ∙ sym (ne_eqb (owner x) (q - 40) ne))
        (cases_eq (owner x) (q - 40))

    outside : is_system q ≡ false → (x : X) → (1 ≤ owner x) × (owner x ≤ 4) → system_party (owner x) ≡ q → ⊥
    outside s x p e =
        let yes : is_system q ≡ true = and_from (leb 41 q) (leb q 44) (le-leb 41 q (omega (arith, p.0, e))) (le-leb q 44 (omega (arith, p.1, e))) in
        let z : ◌≡◌ {A = Bool} true false = sym yes ∙ s in
        let one : ◌≡◌ {A = ℕ} 0 1 = cc in
        omega arith

    three : is_system q ≡ false → (a : Bool) → cond a (pos 0) (cond (is_system q) (sum_over (λ x. owned_by (owner x) (q - 40) (f x)) xs) (cond (eqb q 51) (pos 0) (cond (eqb q 52) (pos 0) (pos 0)))) ≡ pos 0
    three s true = refl
    three s false = cond-false (is_system q) _ _ s ∙ zeros false (eqb q 51) (eqb q 52)

-- an amount to a fund alone
pub capital_row : (n : ℕ) (v : ℤ) → n ≤ 32 → (q : ℕ) → owned_by 51 q v ≡ amount_of n (to_working_capital v) q
capital_row n v few q =
    ⊎_elim
    (λ (e : 51 ≡ q). cond-true (eqb 51 q) v (pos 0) (eq-eqb 51 q e)
    ∙ sym (cond-false (is_account n q) _ _ (and_right (leb 1 q) (leb q n) (lt-leb q n (omega (arith, few, e))))
    ∙ cond-false (is_system q) _ _ (and_right (leb 41 q) (leb q 44) (lt-leb q 44 (omega (arith, e))))
    ∙ cond-true (eqb q 51) _ _ (eq-eqb q 51 (sym e))))
    (λ (ne : 51 ≡ q → ⊥). cond-false (eqb 51 q) v (pos 0) (ne_eqb 51 q ne) ∙ sym (rest (is_account n q) (is_system q) (ne_eqb q 51 (λ e. ne (sym e)))))
    (cases_eq 51 q)
  where
    rest : (a b : Bool) → eqb q 51 ≡ false → cond a (pos 0) (cond b (pos 0) (cond (eqb q 51) v (cond (eqb q 52) (pos 0) (pos 0)))) ≡ pos 0
    rest true b e = refl
    rest false true e = refl
    rest false false e = cond-false (eqb q 51) _ _ e ∙ zeros false false (eqb q 52)

pub service_row : (n : ℕ) (v : ℤ) → n ≤ 32 → (q : ℕ) → owned_by 52 q v ≡ amount_of n (to_universal_service v) q
service_row n v few q =
    ⊎_elim
    (λ (e : 52 ≡ q). cond-true (eqb 52 q) v (pos 0) (eq-eqb 52 q e)
    ∙ sym (cond-false (is_account n q) _ _ (and_right (leb 1 q) (leb q n) (lt-leb q n (omega (arith, few, e))))
    ∙ cond-false (is_system q) _ _ (and_right (leb 41 q) (leb q 44) (lt-leb q 44 (omega (arith, e))))
    ∙ cond-false (eqb q 51) _ _ (ne_eqb q 51 (λ w. omega (arith, e, w)))
    ∙ cond-true (eqb q 52) _ _ (eq-eqb q 52 (sym e))))
    (λ (ne : 52 ≡ q → ⊥). cond-false (eqb 52 q) v (pos 0) (ne_eqb 52 q ne) ∙ sym (rest (is_account n q) (is_system q) (eqb q 51) (ne_eqb q 52 (λ e. ne (sym e)))))
    (cases_eq 52 q)
  where
    rest : (a b c : Bool) → eqb q 52 ≡ false → cond a (pos 0) (cond b (pos 0) (cond c (pos 0) (cond (eqb q 52) v (pos 0)))) ≡ pos 0
    rest true b c e = refl
    rest false true c e = refl
    rest false false true e = refl
    rest false false false e = cond-false (eqb q 52) _ _ e

pub systems_same : (n : ℕ) (f g : ℕ → ℤ) → ((s : ℕ) → f s ≡ g s) → (q : ℕ) → amount_of n (to_systems f) q ≡ amount_of n (to_systems g) q
systems_same n f g h q = ap (λ z. cond (is_account n q) (pos 0) (cond (is_system q) z (cond (eqb q 51) (pos 0) (cond (eqb q 52) (pos 0) (pos 0))))) (h (q - 40))

pub accounts_same : (n : ℕ) (f g : ℕ → ℤ) → ((a : ℕ) → 1 ≤ a → a ≤ n → f a ≡ g a) → (q : ℕ) → amount_of n (to_accounts f) q ≡ amount_of n (to_accounts g) q
accounts_same n f g h q =
    accounts_have n f q
    ∙ ⊎_elim
    (λ (s : is_account n q ≡ true).
    let p = and_parts (leb 1 q) (leb q n) s in
    ap (λ z. cond (is_account n q) z (pos 0)) (h q (leb-true 1 q p.0) (leb-true q n p.1)))
    (λ (s : is_account n q ≡ false). cond-false (is_account n q) _ _ s ∙ sym (cond-false (is_account n q) _ _ s))
    (cases_Bool (is_account n q))
    ∙ sym (accounts_have n g q)

-- a sum of negated amounts
pub negated : {X : Type 0} (owner : X → ℕ) (f : X → ℤ) (k : ℕ) (xs : List X) → sum_over (λ x. owned_by (owner x) k (neg_ℤ (f x))) xs ≡ neg_ℤ (sum_over (λ x. owned_by (owner x) k (f x)) xs)
negated owner f k xs = sum_same _ _ (λ x. turned (eqb (owner x) k) (f x)) xs ∙ sum_neg (λ x. owned_by (owner x) k (f x)) xs
  where
    turned : (b : Bool) (z : ℤ) → cond b (neg_ℤ z) (pos 0) ≡ neg_ℤ (cond b z (pos 0))
    turned true z = refl
    turned false z = refl
