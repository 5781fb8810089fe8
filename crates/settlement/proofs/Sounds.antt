-- What adding over the records of a sound book asks for.
use Rattle.std.proofs.Common.{◌≡◌, ℕ, ◌≤◌, List, sym, subst, arith}
use Rattle.std.specs.List.{AllByRecursion}
use Rattle.dayfile.specs.Records.{Records}
use Rattle.dayfile.specs.declared.record.Price.{Price}
use Rattle.valuation.specs.Valid.{Listed, Sound, ValidPrice}
use Rattle.bounds.proofs.Facts.{all_map}

module _ (r : Records) (s : Sound r) where
  -- records of a heading of at most n accounts
  pub named : {X : Type 0} (account : X → ℕ) (n : ℕ) (xs : List X) → r.heading.accounts ≤ n → AllByRecursion (λ x. Listed r (account x)) xs → AllByRecursion (λ x. (1 ≤ account x) × (account x ≤ n)) xs
  named account n xs h = all_map (λ x. Listed r (account x)) _ (λ x p. (p.0, omega (arith, p.1, h))) xs

  -- records with the prices of the day
  pub with_prices : {X : Type 0} (P : X → Type 0) (prices : List Price) (xs : List X) → prices ≡ r.prices → AllByRecursion P xs → AllByRecursion (λ x. AllByRecursion ValidPrice prices × P x) xs
  with_prices P prices xs e = all_map P _ (λ x v. (subst (AllByRecursion ValidPrice) (sym e) s.prices, v)) xs
