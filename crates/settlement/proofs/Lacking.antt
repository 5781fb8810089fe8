-- What lacks weights, and what can be shared.
use Rattle.std.proofs.Common.{◌≡◌, ℕ, zero, suc, ◌<◌, Bool, true, false, not, ◌&&◌, eqb, List, [], ◌∷◌, length, get_or, ℤ, pos, negsuc, nat_abs, sum, sym, ap, ◌∙◌, arith}
use Rattle.std.proofs.lemmas.Bool.{eq-eqb, eqb-true, false≢true, not-false, or_parts}
use Rattle.dayfile.specs.Records.{Records}
use Rattle.sharing.specs.Shareable.{shareable}
use Rattle.sharing.specs.Admitted.{shared as facts_shared}
use Rattle.codes.specs.Codes.{all_codes, basis_of, code_at, code_index}
use Rattle.codes.specs.declared.code.Basis.TheVariants.{Purchases}
use Rattle.codes.specs.declared.code.Code.{Code}
use Rattle.codes.proofs.Codes.{code_at_index, index_below}
use Rattle.amounts.specs.Amounts.{any_of, is_zero, lacking, lacks, shared, weights}
use Rattle.valuation.specs.Valid.{Sound}
use Rattle.bounds.proofs.Bounds.{shared_le, size_small, weights_length, weights_light}

pub zero_is : (z : ℤ) → is_zero z ≡ true → z ≡ pos 0
zero_is (pos n) e = ap pos (eqb-true n 0 e)
zero_is (negsuc n) e = absurd (false≢true e)

pub none_of : {X : Type 0} (p : X → Bool) (xs : List X) → any_of p xs ≡ false → (i : ℕ) (d : X) → i < length xs → p (get_or xs i d) ≡ false
none_of p [] e i d h = absurd (omega arith)
none_of p (x ∷ xs) e zero d h = (or_parts (p x) (any_of p xs) e).0
none_of p (x ∷ xs) e (suc i) d h = none_of p xs (or_parts (p x) (any_of p xs) e).1 i d (omega arith)

-- nothing is lacking: no code lacks weights
pub no_lack : (r : Records) (h : ℕ) → lacking r h ≡ false → (code : Code) → lacks r h code ≡ false
no_lack r h e code = ap (lacks r h) (sym (code_at_index code)) ∙ none_of (lacks r h) all_codes e (code_index code) (code_at 0) (index_below code)

borne_by : (w : ℕ) (z : ℤ) → (eqb w 0 && not (is_zero z)) ≡ false → w ≡ 0 → z ≡ pos 0
borne_by w z e s =
    let t : not (is_zero z) ≡ false = sym (ap (λ b. b && not (is_zero z)) (eq-eqb w 0 s)) ∙ e in
    zero_is z (not-false (is_zero z) t)

module _ (r : Records) (s : Sound r) (h : ℕ) (code : Code) (p : basis_of code ≡ Purchases) where
  pub weights_of : weights (basis_of code) r h ≡ weights Purchases r h
  weights_of = ap (λ k. weights k r h) p

  -- an amount that lacks no weights can be shared under any rule
  pub can_share : lacks r h code ≡ false → shareable (nat_abs (shared r h code)) (weights Purchases r h) ≡ true
  can_share e =
      facts_shared (nat_abs (shared r h code)) (weights Purchases r h) (record {
        some = omega (arith, weights_length r h, s.some);
        few = omega (arith, weights_length r h, s.few);
        small = omega (arith, shared_le r s h code, size_small r s h);
        light = weights_light r s h;
        borne = λ z. ap nat_abs (borne_by (sum (weights (basis_of code) r h)) (shared r h code) e (ap sum weights_of ∙ z));
      })
