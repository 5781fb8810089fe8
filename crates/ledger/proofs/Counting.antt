-- What notes count for under a code and a party.
use Rattle.std.proofs.Common.{Ok, Err, Option, ◌≡◌, ℕ, suc, ◌+◌, ◌-◌, ◌<◌, ◌≤◌, Bool, true, false, cond, ◌&&◌, eqb, leb, ◌⊎◌, List, [], ◌∷◌, ◌++◌, length, get_or, take, ℤ, pos, ◌+ℤ◌, ◌-ℤ◌, nat_abs, is_some, Some, None, sym, refl, ap, ◌∙◌, subst, inl, inr, arith}
use Rattle.std.specs.Option.{ok_or}
use lib.IntN.{+ℤ_idl, +ℤ_idr, +ℤ_assoc}
use Rattle.std.proofs.lemmas.List.{take_more}
use Rattle.std.proofs.lemmas.Int.{ints}
use Rattle.std.proofs.lemmas.Bool.{and_from, and_left, and_parts, and_right, cases_eq, cond-false, cond-true, eq-eqb, eqb-true, leb-true, ne_eqb}
use Rattle.codes.specs.Cells.{Put, cell}
use Rattle.codes.specs.Codes.{code_at, code_count, code_number, code_of}
use Rattle.codes.specs.Parties.{party_place}
use Rattle.codes.specs.Sums.{sum_over}
use Rattle.codes.specs.declared.code.Code.{Code}
use Rattle.codes.specs.declared.table.Table.{Table}
use Rattle.codes.proofs.Codes.{same_code}
use Rattle.codes.proofs.Places.{all_below, each_below}
use Rattle.ledger.specs.Issues.{counted, noted}
use Rattle.ledger.specs.Steps.{AllTakeable, TakenOff, Takeable}
use Rattle.ledger.specs.Notes.{known, no_note}
use Rattle.ledger.specs.declared.note.Note.{Note}

numbers : all_below code_count (λ i. eqb (code_number (code_at i)) (suc i)) ≡ true
unfolding all_below
numbers = refl

pub number_of : (n : ℕ) (code : Code) → Some code ≡ code_of n → code_number code ≡ n
number_of n code e = step (leb 1 n && leb n code_count) refl e
  where
    step : (b : Bool) → (leb 1 n && leb n code_count) ≡ b → Some code ≡ cond b (Some (code_at (n - 1))) None → code_number code ≡ n
    step false f s = let z : ◌≡◌ {A = ℕ} 0 1 = cc in absurd (omega arith)
    step true f s =
        let p = and_parts (leb 1 n) (leb n code_count) f in
        let low = leb-true 1 n p.0 in
        let high = leb-true n code_count p.1 in
        let is : code ≡ code_at (n - 1) = cc in
        let num = eqb-true (code_number (code_at (n - 1))) (suc (n - 1)) (each_below code_count (λ i. eqb (code_number (code_at i)) (suc i)) numbers (n - 1) (omega arith)) in
        ap code_number is ∙ num ∙ (omega arith)

-- a code that was found, or not, by its number
pub found : {X E : Type 0} (o : Option X) (e : E) (x : X) → Ok x ≡ ok_or o e → Some x ≡ o
found None e x h = cc
found (Some y) e x h = cc

pub lost : {X E : Type 0} (o : Option X) (e z : E) → Err z ≡ ok_or o e → None ≡ o
lost None e z h = refl
lost (Some y) e z h = cc

-- a note counts in full under its own code and party, and not at all under another
pub counted_own : (n : Note) (code : Code) → code_number code ≡ n.code → counted code n.party n ≡ n.amount
counted_own n code e =
    cond-true _ n.amount (pos 0) (and_from _ _ (eq-eqb n.code (code_number code) (sym e)) (eq-eqb n.party n.party refl))

same_number : (c d : Code) → code_number c ≡ code_number d → c ≡ d
same_number c d e = same_code c d (ap (λ k. k - 1) e)

pub counted_other : (n : Note) (code d : Code) (q : ℕ) → code_number code ≡ n.code → ((d ≡ code) × (q ≡ n.party) → ⊥) → counted d q n ≡ pos 0
counted_other n code d q e ne = step (cases_eq n.code (code_number d)) (cases_eq n.party q)
  where
    step : (n.code ≡ code_number d) ⊎ (n.code ≡ code_number d → ⊥) → (n.party ≡ q) ⊎ (n.party ≡ q → ⊥) → counted d q n ≡ pos 0
    step (inl a) (inl b) = absurd (ne (same_number d code (sym a ∙ sym e), sym b))
    step (inl a) (inr b) = cond-false _ n.amount (pos 0) (and_right _ _ (ne_eqb n.party q b))
    step (inr a) o = cond-false _ n.amount (pos 0) (and_left _ _ (ne_eqb n.code (code_number d) a))

less_none : (z : ℤ) → z -ℤ pos 0 ≡ z
less_none z = omega (arith, ints)

-- one cell put, less the note
module _ (t u : Table) (n : Note) (code : Code) (e : code_number code ≡ n.code) where
  own : (d : Code) (q : ℕ) → d ≡ code → q ≡ n.party → cell u code n.party ≡ cell t code n.party -ℤ n.amount → cell u d q ≡ cell t d q -ℤ counted d q n
  own d q a b h =
      (λ i. cell u (a i) (b i)) ∙ h ∙ sym (ap (λ z. cell t code n.party -ℤ z) (counted_own n code e)) ∙ sym (λ i. cell t (a i) (b i) -ℤ counted (a i) (b i) n)

  other : (d : Code) (q : ℕ) → ((d ≡ code) × (q ≡ n.party) → ⊥) → cell u d q ≡ cell t d q → cell u d q ≡ cell t d q -ℤ counted d q n
  other d q ne h = h ∙ sym (less_none (cell t d q)) ∙ sym (ap (λ z. cell t d q -ℤ z) (counted_other n code d q e ne))

  pub off : (z : ℤ) → z ≡ cell t code n.party -ℤ n.amount → is_some (party_place n.party) ≡ true → Put t u code n.party z → (d : Code) (q : ℕ) → cell u d q ≡ cell t d q -ℤ counted d q n
  off z is k put d q = step (cases_eq (code_number d) (code_number code)) (cases_eq q n.party)
    where
      step : (code_number d ≡ code_number code) ⊎ (code_number d ≡ code_number code → ⊥) → (q ≡ n.party) ⊎ (q ≡ n.party → ⊥) → cell u d q ≡ cell t d q -ℤ counted d q n
      step (inl a) (inl b) = own d q (same_number d code a) b (put.here k ∙ is)
      step (inl a) (inr b) = other d q (λ p. b p.1) (put.others d q (λ p. b p.1))
      step (inr a) o = other d q (λ p. a (ap code_number p.0)) (put.others d q (λ p. a (ap code_number p.0)))

pub small_off : (t : Table) (n : Note) (code : Code) → Takeable t n → code_number code ≡ n.code → nat_abs (cell t code n.party -ℤ n.amount) ≤ 1000000000000000000
small_off t n code h e = subst (λ z. nat_abs (cell t code n.party -ℤ z) ≤ 1000000000000000000) (counted_own n code e) (h.small code n.party)

pub codes_known : (n : Note) → known n ≡ true → (is_some (code_of n.code) ≡ true) × (is_some (party_place n.party) ≡ true)
unfolding known
codes_known n e = and_parts (is_some (code_of n.code)) (is_some (party_place n.party)) e

pub no_code : (n : Note) → known n ≡ true → None ≡ code_of n.code → false ≡ true
no_code n e f = ap is_some f ∙ (codes_known n e).0

pub sum-++ : {X : Type 0} (f : X → ℤ) (xs ys : List X) → sum_over f (xs ++ ys) ≡ sum_over f xs +ℤ sum_over f ys
sum-++ f [] ys = sym (+ℤ_idl (sum_over f ys))
sum-++ f (x ∷ xs) ys = ap (λ z. f x +ℤ z) (sum-++ f xs ys) ∙ sym (+ℤ_assoc (f x) (sum_over f xs) (sum_over f ys))

pub sum_more : {X : Type 0} (f : X → ℤ) (xs : List X) (i : ℕ) (d : X) → i < length xs → sum_over f (take (i + 1) xs) ≡ sum_over f (take i xs) +ℤ f (get_or xs i d)
sum_more f xs i d h = ap (sum_over f) (take_more xs i d h) ∙ sum-++ f (take i xs) (get_or xs i d ∷ []) ∙ ap (λ z. sum_over f (take i xs) +ℤ z) (+ℤ_idr (f (get_or xs i d)))

less_twice : (a b c : ℤ) → (a -ℤ b) -ℤ c ≡ a -ℤ (b +ℤ c)
less_twice a b c = omega (arith, ints)

-- one note more taken off
module _ (t u : Table) (ns : List Note) (i : ℕ) (h : i < length ns) (taken : TakenOff t u (noted (take i ns))) where
  pub off_more : (code : Code) (party : ℕ) → cell u code party -ℤ counted code party (get_or ns i no_note) ≡ cell t code party -ℤ noted (take (i + 1) ns) code party
  off_more code party =
      ap (λ z. z -ℤ counted code party (get_or ns i no_note)) (taken.each code party) ∙ less_twice (cell t code party) (noted (take i ns) code party) (counted code party (get_or ns i no_note))
      ∙ ap (λ z. cell t code party -ℤ z) (sym (sum_more (counted code party) ns i no_note h))

  pub takeable_next : AllTakeable t ns → Takeable u (get_or ns i no_note)
  takeable_next all = record {
    coded = all.coded i h;
    small = λ code party. subst (λ z. nat_abs z ≤ 1000000000000000000) (sym (off_more code party)) (all.small (i + 1) code party);
  }

  pub taken_more : (v : Table) → TakenOff u v (λ code party. counted code party (get_or ns i no_note)) → TakenOff t v (noted (take (i + 1) ns))
  taken_more v next = record { each = λ code party. next.each code party ∙ off_more code party }

pub taken_none : (t u : Table) → u.cells ≡ t.cells → TakenOff t u (noted [])
taken_none t u e = record { each = λ code party. ap (λ cs. cell (record { cells = cs }) code party) e ∙ sym (less_none (cell t code party)) }
