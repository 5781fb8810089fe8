-- What is known of the records of a sound book.
use Rattle.std.proofs.Common.{◌≡◌, ℕ, suc, ◌+◌, ◌≤◌, Bool, true, false, cond, not, ◌&&◌, T, eqb, leb, List, [], ◌∷◌, ◌++◌, length, ℤ, pos, negsuc, nat_abs, is_some, Some, None, sum_by, Option, sym, refl, ap, ◌∙◌, ⊎_elim, arith}
use Rattle.std.specs.Option.{option_map}
use Rattle.std.specs.List.{AllByRecursion}
use Rattle.std.proofs.lemmas.List.{append_assoc, append-nil, length_push}
use Rattle.std.proofs.lemmas.List.Sums.{sum_by-cons, sum_by_push}
use Rattle.std.proofs.lemmas.Bool.{and_parts, cases_Bool, eqb-true, false≢true, leb-false, leb-true, true≢false}
use Rattle.faults.specs.declared.refusal.Refusal.TheVariants.{OutOfRange, AboveHeading, KeyTaken, TableFull}
use Rattle.dayfile.specs.Calendar.{days_in, within}
use Rattle.dayfile.specs.Records.{Records}
use Rattle.dayfile.specs.declared.heading.Heading.{Heading}
use Rattle.dayfile.specs.declared.record.Failure.{Failure}
use Rattle.dayfile.specs.declared.record.Fine.{Fine}
use Rattle.dayfile.specs.declared.record.Interconnection.{Interconnection}
use Rattle.dayfile.specs.declared.record.Position.{Position}
use Rattle.dayfile.specs.declared.record.Price.{Price}
use Rattle.dayfile.specs.declared.record.Reserve.{Reserve}
use Rattle.rows.specs.Kinds.{energy_in_range, failure_terms, fine_terms, interconnection_terms, position_terms, price_in_range, price_terms, reserve_terms}
use Rattle.rows.specs.Tables.{Terms, first_place, row_refusal, sound_table, taken_after}
use Rattle.book.specs.Soundness.{sound_records}
use Rattle.valuation.specs.Valid.{Listed, Sound, ValidFine, ValidInterconnection, ValidPosition, ValidPrice, ValidReserve}

pub all_map : {X : Type 0} (P Q : X → Type 0) → ((x : X) → P x → Q x) → (xs : List X) → AllByRecursion P xs → AllByRecursion Q xs
all_map P Q f [] h = tt
all_map P Q f (x ∷ xs) h = (f x h.0, all_map P Q f xs h.1)

-- none of the four reasons holds
admits : (a b c d : Bool)
    → not (is_some (cond (not a) (Some OutOfRange) (cond (not b) (Some AboveHeading) (cond c (Some KeyTaken) (cond d (Some TableFull) None))))) ≡ true
    → (a ≡ true) × (b ≡ true) × (c ≡ false) × (d ≡ false)
admits false b c d e = absurd (false≢true e)
admits true false c d e = absurd (false≢true e)
admits true true true d e = absurd (false≢true e)
admits true true false true e = absurd (false≢true e)
admits true true false false e = (refl, refl, refl, refl)

module _ {X : Type 0} (t : Terms X) (h : Heading) where
  first : (before : List X) (x : X) (xs : List X) → taken_after t h before (x ∷ xs) ≡ true
      → ((t.in_range x ≡ true) × (t.listed h x ≡ true) × (is_some (first_place (t.alike x) before) ≡ false) × (leb t.room (length before) ≡ false))
  first before x xs e =
      admits (t.in_range x) (t.listed h x) (is_some (first_place (t.alike x) before)) (leb t.room (length before)) (and_parts (not (is_some (row_refusal t h before x))) _ e).0

  rest : (before : List X) (x : X) (xs : List X) → taken_after t h before (x ∷ xs) ≡ true → taken_after t h (before ++ x ∷ []) xs ≡ true
  rest before x xs e = (and_parts (not (is_some (row_refusal t h before x))) (taken_after t h (before ++ x ∷ []) xs) e).1

  each : (before xs : List X) → taken_after t h before xs ≡ true → AllByRecursion (λ x. (t.in_range x ≡ true) × (t.listed h x ≡ true)) xs
  each before [] e = tt
  each before (x ∷ xs) e =
      let p = first before x xs e in
      ((p.0, p.1), each (before ++ x ∷ []) xs (rest before x xs e))

  fits : (before xs : List X) → length before ≤ t.room → taken_after t h before xs ≡ true → length before + length xs ≤ t.room
  fits before [] l e = omega arith
  fits before (x ∷ xs) l e =
      let p = leb-false t.room (length before) (first before x xs e).3 in
      omega (arith, fits (before ++ x ∷ []) xs (omega (arith, length_push before x)) (rest before x xs e), length_push before x)

-- how many failures have a unit and kind
abbrev hits : ℕ → ℕ → Failure → ℕ
hits u k f = cond (eqb u f.unit && eqb k f.kind) 1 0

-- a test as a number
abbrev one_if : Bool → ℕ
one_if b = cond b 1 0

tested : {b c : Bool} → b ≡ c → one_if b ≡ one_if c
tested e = ap one_if e

none_hit : (u k : ℕ) (fs : List Failure) → is_some (first_place (λ f. eqb u f.unit && eqb k f.kind) fs) ≡ false → sum_by (hits u k) fs ≡ 0
none_hit u k [] e = refl
none_hit u k (f ∷ fs) e = go (eqb u f.unit && eqb k f.kind) refl (none_hit u k fs) e
  where
    deeper : (o : Option ℕ) → is_some (option_map suc o) ≡ false → is_some o ≡ false
    deeper None e = e
    deeper (Some i) e = e

    go : (b : Bool) → (eqb u f.unit && eqb k f.kind) ≡ b
        → (is_some (first_place (λ f. eqb u f.unit && eqb k f.kind) fs) ≡ false → sum_by (hits u k) fs ≡ 0)
        → is_some (cond b (Some 0) (option_map suc (first_place (λ f. eqb u f.unit && eqb k f.kind) fs))) ≡ false → sum_by (hits u k) (f ∷ fs) ≡ 0
    go true w on e = absurd (true≢false e)
    go false w on e = omega (arith, sum_by-cons (hits u k) f fs, tested w, on (deeper _ e))

at_most_one : (h : Heading) (u k : ℕ) (before fs : List Failure) → sum_by (hits u k) before ≤ 1 → taken_after failure_terms h before fs ≡ true → sum_by (hits u k) (before ++ fs) ≤ 1
at_most_one h u k before [] l e = rw (append-nil before) l
at_most_one h u k before (f ∷ fs) l e =
    rw (sym (append_assoc before (f ∷ []) fs)) (at_most_one h u k (before ++ f ∷ []) fs more (rest failure_terms h before f fs e))
  where
    fresh : is_some (first_place (λ y. eqb f.unit y.unit && eqb f.kind y.kind) before) ≡ false
    fresh = (first failure_terms h before f fs e).2

    more : sum_by (hits u k) (before ++ f ∷ []) ≤ 1
    more =
        ⊎_elim
        (λ (y : (eqb u f.unit && eqb k f.kind) ≡ true).
        let p = and_parts (eqb u f.unit) (eqb k f.kind) y in
        let z : sum_by (hits u k) before ≡ 0 = (λ i. sum_by (hits (eqb-true u f.unit p.0 i) (eqb-true k f.kind p.1 i)) before) ∙ none_hit f.unit f.kind before fresh in
        omega (arith, sum_by_push (hits u k) before f, tested y, z))
        (λ (n : (eqb u f.unit && eqb k f.kind) ≡ false). omega (arith, sum_by_push (hits u k) before f, tested n, l))
        (cases_Bool (eqb u f.unit && eqb k f.kind))

holds : (b : Bool) → T b → b ≡ true
holds true t = refl
holds false t = absurd t

price_small : (z : ℤ) → price_in_range z ≡ true → nat_abs z ≤ 10000000
price_small (pos n) e = leb-true n 10000000 e
price_small (negsuc n) e = omega (arith, leb-true n 9999999 (and_parts (leb n 9999999) true e).0)

price_valid : (p : Price) → price_terms.in_range p ≡ true → ValidPrice p
price_valid p e =
    let a = and_parts (leb 1 p.node) _ e in
    let b = and_parts (leb 1 p.hour) _ a.1 in
    let c = and_parts (price_in_range p.day_ahead) (price_in_range p.real_time) b.1 in
    record { day = price_small p.day_ahead c.0; real = price_small p.real_time c.1 }

position_valid : (x : Position) → position_terms.in_range x ≡ true → ValidPosition x × (1 ≤ x.account)
position_valid x e =
    let a = and_parts (leb 1 x.account) _ e in
    let b = and_parts (leb 1 x.node) _ a.1 in
    let c = and_parts (leb 1 x.hour) _ b.1 in
    let d = and_parts (energy_in_range x.day_ahead) (energy_in_range x.real_time) c.1 in
    (record { day = leb-true _ _ d.0; real = leb-true _ _ d.1 }, leb-true _ _ a.0)

interconnection_valid : (x : Interconnection) → interconnection_terms.in_range x ≡ true → ValidInterconnection x
interconnection_valid x e =
    let a = and_parts (leb 1 x.interconnection) _ e in
    let b = and_parts (within 1 4 x.system) _ a.1 in
    let s = and_parts (leb 1 x.system) (leb x.system 4) b.0 in
    let c = and_parts (leb 1 x.node) _ b.1 in
    let d = and_parts (leb 1 x.hour) _ c.1 in
    let f = and_parts (energy_in_range x.day_ahead_export) _ d.1 in
    let g = and_parts (energy_in_range x.day_ahead_import) _ f.1 in
    let i = and_parts (energy_in_range x.real_time_export) _ g.1 in
    let j = and_parts (energy_in_range x.real_time_import) (price_in_range x.imbalance_price) i.1 in
    record {
      first = leb-true _ _ s.0;
      last = leb-true _ _ s.1;
      day_out = leb-true _ _ f.0;
      day_in = leb-true _ _ g.0;
      real_out = leb-true _ _ i.0;
      real_in = leb-true _ _ j.0;
      price = price_small x.imbalance_price j.1;
    }

reserve_valid : (x : Reserve) → reserve_terms.in_range x ≡ true → ValidReserve x × (1 ≤ x.account)
reserve_valid x e =
    let a = and_parts (leb 1 x.account) _ e in
    let b = and_parts (within 1 64 x.unit) _ a.1 in
    let c = and_parts (within 1 5 x.kind) _ b.1 in
    let d = and_parts (leb 1 x.hour) _ c.1 in
    let f = and_parts (leb x.day_ahead_price 10000000) _ d.1 in
    let g = and_parts (energy_in_range x.day_ahead) _ f.1 in
    let i = and_parts (leb x.real_time_price 10000000) (energy_in_range x.real_time) g.1 in
    (record { day_price = leb-true _ _ f.0; day = leb-true _ _ g.0; real_price = leb-true _ _ i.0; real = leb-true _ _ i.1 }, leb-true _ _ a.0)

fine_valid : (x : Fine) → fine_terms.in_range x ≡ true → ValidFine x × (1 ≤ x.account)
fine_valid x e =
    let a = and_parts (leb 1 x.account) _ e in
    let b = and_parts (leb 1 x.centavos) (leb x.centavos 1000000000000) a.1 in
    (record { centavos = leb-true _ _ b.1 }, leb-true _ _ a.0)

heading_facts : (h : Heading) → (1 ≤ h.accounts) × (h.accounts ≤ 32) × (h.hours ≤ 25)
heading_facts h =
    let rest_5 : Bool = within 1 16 h.nodes && leb h.interconnections 8 in
    let rest_4 : Bool = within 1 32 h.accounts && rest_5 in
    let rest_3 : Bool = within 23 25 h.hours && rest_4 in
    let rest_2 : Bool = within 1 (days_in h.year h.month) h.day && rest_3 in
    let rest_1 : Bool = within 1 12 h.month && rest_2 in
    let y = and_parts (within 2016 2099 h.year) rest_1 (holds (within 2016 2099 h.year && rest_1) h.real) in
    let m = and_parts (within 1 12 h.month) rest_2 y.1 in
    let d = and_parts (within 1 (days_in h.year h.month) h.day) rest_3 m.1 in
    let hours = and_parts (within 23 25 h.hours) rest_4 d.1 in
    let accounts = and_parts (within 1 32 h.accounts) rest_5 hours.1 in
    let few = and_parts (leb 1 h.accounts) (leb h.accounts 32) accounts.0 in
    let day = and_parts (leb 23 h.hours) (leb h.hours 25) hours.0 in
    (leb-true _ _ few.0, leb-true _ _ few.1, leb-true _ _ day.1)

pub sound_facts : (r : Records) → sound_records r ≡ true → Sound r
sound_facts r e =
    let h = r.heading in
    let a = and_parts (sound_table price_terms h r.prices) _ e in
    let b = and_parts (sound_table position_terms h r.positions) _ a.1 in
    let c = and_parts (sound_table interconnection_terms h r.interconnections) _ b.1 in
    let d = and_parts (sound_table reserve_terms h r.reserves) _ c.1 in
    let f = and_parts (sound_table failure_terms h r.failures) (sound_table fine_terms h r.fines) d.1 in
    let positions = each position_terms h [] r.positions b.0 in
    let reserves = each reserve_terms h [] r.reserves d.0 in
    let fines = each fine_terms h [] r.fines f.1 in
    let head = heading_facts h in
    record {
      some = head.0;
      few = head.1;
      day = head.2;
      few_positions = omega (arith, fits position_terms h [] r.positions (omega arith) b.0);
      few_interconnections = omega (arith, fits interconnection_terms h [] r.interconnections (omega arith) c.0);
      few_reserves = omega (arith, fits reserve_terms h [] r.reserves (omega arith) d.0);
      few_failures = omega (arith, fits failure_terms h [] r.failures (omega arith) f.0);
      few_fines = omega (arith, fits fine_terms h [] r.fines (omega arith) f.1);
      prices = all_map _ ValidPrice (λ x p. price_valid x p.0) r.prices (each price_terms h [] r.prices a.0);
      positions = all_map _ ValidPosition (λ x p. (position_valid x p.0).0) r.positions positions;
      interconnections = all_map _ ValidInterconnection (λ x p. interconnection_valid x p.0) r.interconnections (each interconnection_terms h [] r.interconnections c.0);
      reserves = all_map _ ValidReserve (λ x p. (reserve_valid x p.0).0) r.reserves reserves;
      fines = all_map _ ValidFine (λ x p. (fine_valid x p.0).0) r.fines fines;
      position_accounts = all_map _ (λ x. Listed r x.account) (λ x p. ((position_valid x p.0).1, leb-true _ _ (and_parts (leb x.account h.accounts) _ p.1).0)) r.positions positions;
      reserve_accounts = all_map _ (λ x. Listed r x.account) (λ x p. ((reserve_valid x p.0).1, leb-true _ _ (and_parts (leb x.account h.accounts) _ p.1).0)) r.reserves reserves;
      fine_accounts = all_map _ (λ x. Listed r x.account) (λ x p. ((fine_valid x p.0).1, leb-true _ _ p.1)) r.fines fines;
      once = λ u k. at_most_one h u k [] r.failures (omega arith) f.0;
    }
