-- What it takes for an amount to be shared, as facts, and the parts of nothing.
use Rattle.std.specs.Prelude.{◌≡◌, ℕ, zero, suc, ◌<◌, ◌≤◌, Bool, true, false, cond, ◌&&◌, ◌||◌, ltb, List, length, Ok, Err, sum, ◌==◌, nat_eq, nat_le, nat_lt, refl}
use Rattle.std.proofs.Common.{⊎_elim, arith}
use Rattle.std.proofs.lemmas.Bool.{and_from, and_parts, eq-eqb, eqb-true, le-leb, leb-true, lt-ltb, ltb-true, or_cases, or_left, or_right}
use Rattle.sharing.specs.Limits.{most_amount, most_places, most_weight}
use Rattle.sharing.specs.Shareable.{admitted, shareable}

pub record Facts (amount : ℕ) (weights : List ℕ) : Type 0 where
  pub some : 1 ≤ length weights
  pub few : length weights ≤ most_places
  pub small : amount ≤ most_amount
  pub light : sum weights ≤ most_weight
  pub borne : sum weights ≡ 0 → amount ≡ 0

pub by_zero : {P : Type 0} (n : ℕ) → (n ≡ 0 → P) → (0 < n → P) → P
by_zero zero f g = f refl
by_zero (suc n) f g = g (omega arith)

pub facts : (amount : ℕ) (weights : List ℕ) → shareable amount weights ≡ true → Facts amount weights
facts amount weights s =
    let n = length weights in
    let w = sum weights in
    let halves = and_parts (nat_le 1 n && (nat_le n most_places && nat_le amount most_amount)) (nat_le w most_weight && (nat_lt 0 w || amount == 0)) s in
    let first = and_parts (nat_le 1 n) (nat_le n most_places && nat_le amount most_amount) halves.0 in
    let second = and_parts (nat_le n most_places) (nat_le amount most_amount) first.1 in
    let third = and_parts (nat_le w most_weight) (nat_lt 0 w || amount == 0) halves.1 in
    record {
      some = leb-true 1 n first.0;
      few = leb-true n most_places second.0;
      small = leb-true amount most_amount second.1;
      light = leb-true w most_weight third.0;
      borne = λ z. ⊎_elim (λ (b : ltb 0 w ≡ true). absurd (omega (arith, ltb-true 0 w b))) (λ (b : nat_eq amount 0 ≡ true). eqb-true amount 0 b) (or_cases (nat_lt 0 w) (amount == 0) third.1);
    }

pub shared : (amount : ℕ) (weights : List ℕ) → Facts amount weights → shareable amount weights ≡ true
shared amount weights f =
    let n = length weights in
    let w = sum weights in
    let borne : (nat_lt 0 w || amount == 0) ≡ true = by_zero w
    (λ z. or_right (nat_lt 0 w) (amount == 0) (eq-eqb amount 0 (f.borne z)))
    (λ p. or_left (nat_lt 0 w) (amount == 0) (lt-ltb 0 w p)) in
    and_from (nat_le 1 n && (nat_le n most_places && nat_le amount most_amount)) (nat_le w most_weight && (nat_lt 0 w || amount == 0))
    (and_from (nat_le 1 n) (nat_le n most_places && nat_le amount most_amount) (le-leb 1 n f.some) (and_from (nat_le n most_places) (nat_le amount most_amount) (le-leb n most_places f.few) (le-leb amount most_amount f.small)))
    (and_from (nat_le w most_weight) (nat_lt 0 w || amount == 0) (le-leb w most_weight f.light) borne)

pub admitted_parts : (amount : ℕ) (weights : List ℕ) (places : ℕ) → admitted amount weights places ≡ true → (places ≡ length weights) × (shareable amount weights ≡ true)
admitted_parts amount weights places s =
    let p = and_parts (places == length weights) (shareable amount weights) s in
    (eqb-true places (length weights) p.0, p.1)

-- an answer by a test says how the test came out
pub ok_of : {A E : Type 0} (b : Bool) (x y : A) (f : E) → Ok y ≡ cond b (Ok x) (Err f) → (b ≡ true) × (y ≡ x)
ok_of true x y f e = (refl, cc)
ok_of false x y f e = let z : ◌≡◌ {A = ℕ} 0 1 = cc in absurd (omega arith)
