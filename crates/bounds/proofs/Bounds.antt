-- How large the amounts of a scope can be, for the records of a sound book.
use Rattle.std.proofs.Common.{◌≡◌, ℕ, ◌+◌, ◌≤◌, Bool, true, false, cond, ◌&&◌, eqb, List, length, ℤ, pos, ◌+ℤ◌, ◌-ℤ◌, ◌*ℤ◌, neg_ℤ, nat_abs, Some, None, sum_by, sum, Option, arith}
use borrow.Author.Differences.{ints}
use Rattle.std.specs.List.{range_with_len, AllByRecursion}
use Rattle.std.proofs.lemmas.List.FromFn.{length-map-range_with_len}
use Rattle.std.proofs.lemmas.List.Sums.{sum-map}
use Rattle.dayfile.specs.Records.{Records}
use Rattle.dayfile.specs.declared.record.Class.{Class}
use Rattle.dayfile.specs.declared.record.Class.TheVariants.{Generation, Load, Import, Export}
use Rattle.dayfile.specs.declared.record.Failure.{Failure}
use Rattle.dayfile.specs.declared.record.Interconnection.{Interconnection}
use Rattle.dayfile.specs.declared.record.Position.{Position}
use Rattle.dayfile.specs.declared.record.Price.{Price}
use Rattle.dayfile.specs.declared.record.Reserve.{Reserve}
use Rattle.codes.specs.Sums.{sum_over}
use Rattle.codes.specs.declared.code.Basis.TheVariants.{Purchases}
use Rattle.codes.specs.declared.code.Code.{Code}
use Rattle.codes.specs.declared.code.Code.TheVariants.{A1, A2, A3, A4, B1, B2, B3, B4, F1, F2, F3, F4, F5, F6}
use Rattle.amounts.specs.Amounts.{accounts, energy, exchange, imbalance, owned_by, purchases, reserve, shared, value_of_imbalance, weights}
use Rattle.charges.specs.Items.{all_fines, failed_among, failing, fines, penalties, penalty_among}
use Rattle.price_grid.specs.Found.{price_at}
use Rattle.valuation.specs.Terms.{class_sign, exchange_energy, exchange_term, failed_term, fine_mils, imbalance_term, imbalance_value, market_price, net_export, position_energy, position_term, price_in, purchase, reserve_energy, reserve_price, reserve_term}
use Rattle.valuation.specs.Valid.{Listed, Sound, ValidFine, ValidInterconnection, ValidPosition, ValidPrice, ValidReserve}
use Rattle.valuation.specs.declared.market.Market.{Market}
use Rattle.valuation.specs.declared.market.Market.TheVariants.{DayAhead, RealTime}
use Rattle.amounts.proofs.Adding.{by_owner}
use Rattle.amounts.proofs.Arrays.{cond_le}
use Rattle.charges.proofs.AtLeastZero.{zero_le}
use Rattle.bounds.proofs.Facts.{all_map}
use Rattle.bounds.proofs.Limits.{all_any, by_key_le, const_le, counted_le, nat_abs_add, neg_le, none_by, owned_counted_le, sub_le, sum_le, sum_by_add, sum_by_mono, swap, times_by}
use Rattle.valuation.proofs.Prices.{ValidFound, found_valid}
use Rattle.valuation.proofs.Products.{product_le, term_le}

price_in_le : (market : Market) (o : Option Price) → ValidFound o → nat_abs (price_in market o) ≤ 10000000
price_in_le DayAhead (Some p) v = v.day
price_in_le RealTime (Some p) v = v.real
price_in_le DayAhead None v = omega arith
price_in_le RealTime None v = omega arith

price_le : (ps : List Price) (market : Market) (node hour : ℕ) → AllByRecursion ValidPrice ps → nat_abs (market_price ps market node hour) ≤ 10000000
price_le ps market node hour v = price_in_le market (price_at ps node hour) (found_valid ps node hour v)

energy_le : (market : Market) (x : Position) → ValidPosition x → nat_abs (position_energy market x) ≤ 2000000
energy_le DayAhead x v = v.day
energy_le RealTime x v = omega (arith, ints)

sign_le : (class : Class) → nat_abs (class_sign class) ≤ 1
sign_le Generation = omega arith
sign_le Load = omega arith
sign_le Import = omega arith
sign_le Export = omega arith

position_le : (ps : List Price) (market : Market) (x : Position) → AllByRecursion ValidPrice ps → ValidPosition x → nat_abs (position_term ps market x) ≤ 20000000000000
position_le ps market x v w =
    term_le (class_sign x.class) (market_price ps market x.node x.hour) (position_energy market x) (sign_le x.class) (price_le ps market x.node x.hour v) (energy_le market x w)

reserve_price_le : (market : Market) (x : Reserve) → ValidReserve x → nat_abs (reserve_price market x) ≤ 10000000
reserve_price_le DayAhead x v = v.day_price
reserve_price_le RealTime x v = v.real_price

reserve_energy_le : (market : Market) (x : Reserve) → ValidReserve x → nat_abs (reserve_energy market x) ≤ 2000000
reserve_energy_le DayAhead x v = v.day
reserve_energy_le RealTime x v = omega (arith, ints)

reserve_le : (market : Market) (x : Reserve) → ValidReserve x → nat_abs (reserve_term market x) ≤ 20000000000000
reserve_le market x v = product_le 10000000 2000000 (reserve_price market x) (reserve_energy market x) (reserve_price_le market x v) (reserve_energy_le market x v)

flow_le : (market : Market) (x : Interconnection) → ValidInterconnection x → nat_abs (net_export market x) ≤ 2000000
flow_le DayAhead x v = omega (arith, ints)
flow_le RealTime x v = omega (arith, ints)

exchange_energy_le : (market : Market) (x : Interconnection) → ValidInterconnection x → nat_abs (exchange_energy market x) ≤ 4000000
exchange_energy_le DayAhead x v = omega (arith, flow_le DayAhead x v)
exchange_energy_le RealTime x v = omega (arith, ints, flow_le DayAhead x v, flow_le RealTime x v)

exchange_le : (ps : List Price) (market : Market) (x : Interconnection) → AllByRecursion ValidPrice ps → ValidInterconnection x → nat_abs (exchange_term ps market x) ≤ 80000000000000
exchange_le ps market x v w =
    omega (arith, product_le 10000000 4000000 (market_price ps market x.node x.hour) (exchange_energy market x) (price_le ps market x.node x.hour v) (exchange_energy_le market x w))

imbalance_le : (x : Interconnection) → ValidInterconnection x → nat_abs (imbalance_term x) ≤ 20000000000000
imbalance_le x v = product_le 10000000 2000000 x.imbalance_price (net_export RealTime x) v.price (flow_le RealTime x v)

four : (a b c d : ℤ) (n : ℕ) → nat_abs a ≤ n → nat_abs b ≤ n → nat_abs c ≤ n → nat_abs d ≤ n → nat_abs (a +ℤ b -ℤ c -ℤ d) ≤ n + n + n + n
four a b c d n p q r s = omega (arith, ints)

value_le : (ps : List Price) (x : Interconnection) → AllByRecursion ValidPrice ps → ValidInterconnection x → nat_abs (imbalance_value ps x) ≤ 80000000000000
value_le ps x v w =
    let by : (t u : Market) → nat_abs (market_price ps t x.node x.hour *ℤ net_export u x) ≤ 20000000000000 =
    λ t u. product_le 10000000 2000000 (market_price ps t x.node x.hour) (net_export u x) (price_le ps t x.node x.hour v) (flow_le u x w) in
    four (market_price ps DayAhead x.node x.hour *ℤ net_export DayAhead x) (market_price ps RealTime x.node x.hour *ℤ net_export RealTime x) (market_price ps RealTime x.node x.hour *ℤ net_export DayAhead x) (imbalance_term x) 20000000000000 (by DayAhead DayAhead) (by RealTime RealTime) (by RealTime DayAhead) (imbalance_le x w)

-- a limit on the records of an hour
abbrev pub size_p : Records → ℕ → ℕ
size_p r h = sum_by (λ x. cond (eqb x.hour h) 20000000000000 0) r.positions

abbrev pub size_x : Records → ℕ → ℕ
size_x r h = sum_by (λ x. cond (eqb x.hour h) 80000000000000 0) r.interconnections

abbrev pub size_r : Records → ℕ → ℕ
size_r r h = sum_by (λ x. cond (eqb x.hour h) 20000000000000 0) r.reserves

abbrev pub size : Records → ℕ → ℕ
size r h = size_p r h + size_x r h + size_r r h

module _ (r : Records) (s : Sound r) where
  pub positions_le : (market : Market) (h a : ℕ) → nat_abs (energy r market h a) ≤ size_p r h
  positions_le market h a =
      sum_le (λ x. owned_by x.account a (cond (eqb x.hour h) (position_term r.prices market x) (pos 0))) _ r.positions
      (all_map ValidPosition _ (λ x v. owned_counted_le (eqb x.account a) (eqb x.hour h) (position_term r.prices market x) 20000000000000 (position_le r.prices market x s.prices v)) r.positions s.positions)

  pub reserves_le : (market : Market) (h a : ℕ) → nat_abs (reserve r market h a) ≤ size_r r h
  reserves_le market h a =
      sum_le (λ x. owned_by x.account a (cond (eqb x.hour h) (reserve_term market x) (pos 0))) _ r.reserves
      (all_map ValidReserve _ (λ x v. owned_counted_le (eqb x.account a) (eqb x.hour h) (reserve_term market x) 20000000000000 (reserve_le market x v)) r.reserves s.reserves)

  pub exchanges_le : (market : Market) (h : ℕ) → nat_abs (exchange r market h) ≤ size_x r h
  exchanges_le market h =
      sum_le (λ x. cond (eqb x.hour h) (exchange_term r.prices market x) (pos 0)) _ r.interconnections
      (all_map ValidInterconnection _ (λ x v. counted_le (eqb x.hour h) (exchange_term r.prices market x) 80000000000000 (exchange_le r.prices market x s.prices v)) r.interconnections s.interconnections)

  pub values_le : (h : ℕ) → nat_abs (value_of_imbalance r h) ≤ size_x r h
  values_le h =
      sum_le (λ x. cond (eqb x.hour h) (imbalance_value r.prices x) (pos 0)) _ r.interconnections
      (all_map ValidInterconnection _ (λ x v. counted_le (eqb x.hour h) (imbalance_value r.prices x) 80000000000000 (value_le r.prices x s.prices v)) r.interconnections s.interconnections)

  pub imbalances_le : (h system : ℕ) → nat_abs (imbalance r h system) ≤ size_x r h
  imbalances_le h system =
      sum_le (λ x. owned_by x.system system (cond (eqb x.hour h) (imbalance_term x) (pos 0))) _ r.interconnections
      (all_map ValidInterconnection _ (λ x v. owned_counted_le (eqb x.system system) (eqb x.hour h) (imbalance_term x) 80000000000000 (omega (arith, imbalance_le x v))) r.interconnections s.interconnections)

  -- the accounts' amounts together are the amount of all records
  pub all_energy : (market : Market) (h : ℕ) → sum_over (energy r market h) (accounts r) ≡ sum_over (λ x. cond (eqb x.hour h) (position_term r.prices market x) (pos 0)) r.positions
  all_energy market h =
      by_owner (λ x. x.account) (λ x. cond (eqb x.hour h) (position_term r.prices market x) (pos 0)) 1 r.heading.accounts r.positions
      (all_map (λ x. Listed r x.account) _ (λ x p. (p.0, omega (arith, p.1))) r.positions s.position_accounts)

  pub all_reserve : (market : Market) (h : ℕ) → sum_over (reserve r market h) (accounts r) ≡ sum_over (λ x. cond (eqb x.hour h) (reserve_term market x) (pos 0)) r.reserves
  all_reserve market h =
      by_owner (λ x. x.account) (λ x. cond (eqb x.hour h) (reserve_term market x) (pos 0)) 1 r.heading.accounts r.reserves
      (all_map (λ x. Listed r x.account) _ (λ x p. (p.0, omega (arith, p.1))) r.reserves s.reserve_accounts)

  pub all_energy_le : (market : Market) (h : ℕ) → nat_abs (sum_over (energy r market h) (accounts r)) ≤ size_p r h
  all_energy_le market h =
      rw (all_energy market h)
      (sum_le (λ x. cond (eqb x.hour h) (position_term r.prices market x) (pos 0)) _ r.positions
      (all_map ValidPosition _ (λ x v. counted_le (eqb x.hour h) (position_term r.prices market x) 20000000000000 (position_le r.prices market x s.prices v)) r.positions s.positions))

  pub all_reserve_le : (market : Market) (h : ℕ) → nat_abs (sum_over (reserve r market h) (accounts r)) ≤ size_r r h
  all_reserve_le market h =
      rw (all_reserve market h)
      (sum_le (λ x. cond (eqb x.hour h) (reserve_term market x) (pos 0)) _ r.reserves
      (all_map ValidReserve _ (λ x v. counted_le (eqb x.hour h) (reserve_term market x) 20000000000000 (reserve_le market x v)) r.reserves s.reserves))

  pub energy_size : (market : Market) (h a : ℕ) → nat_abs (energy r market h a) ≤ size r h
  energy_size market h a = omega (arith, positions_le market h a)

  pub reserve_size : (market : Market) (h a : ℕ) → nat_abs (reserve r market h a) ≤ size r h
  reserve_size market h a = omega (arith, reserves_le market h a)

  pub imbalance_size : (h system : ℕ) → nat_abs (neg_ℤ (imbalance r h system)) ≤ size r h
  imbalance_size h system = omega (arith, neg_le (imbalance r h system) (size_x r h) (imbalances_le h system))

  pub shared_le : (h : ℕ) (code : Code) → nat_abs (shared r h code) ≤ size r h
  shared_le h A1 = omega arith
  shared_le h A2 = omega (arith, sub_le (exchange r DayAhead h) (sum_over (energy r DayAhead h) (accounts r)) (size_x r h) (size_p r h) (exchanges_le DayAhead h) (all_energy_le DayAhead h))
  shared_le h A3 = omega arith
  shared_le h A4 = omega (arith, neg_le (sum_over (reserve r DayAhead h) (accounts r)) (size_r r h) (all_reserve_le DayAhead h))
  shared_le h B1 = omega arith
  shared_le h B2 = omega (arith, sub_le (exchange r RealTime h) (sum_over (energy r RealTime h) (accounts r)) (size_x r h) (size_p r h) (exchanges_le RealTime h) (all_energy_le RealTime h))
  shared_le h B3 = omega arith
  shared_le h B4 = omega (arith, neg_le (sum_over (reserve r RealTime h) (accounts r)) (size_r r h) (all_reserve_le RealTime h))
  shared_le h F1 = omega (arith, neg_le (value_of_imbalance r h) (size_x r h) (values_le h))
  shared_le h F2 = omega arith
  shared_le h F3 = omega arith
  shared_le h F4 = omega arith
  shared_le h F5 = omega arith
  shared_le h F6 = omega arith

  pub size_small : (h : ℕ) → size r h ≤ 44000000000000000
  size_small h =
      omega (
        arith,
        const_le (λ x. eqb x.hour h) 20000000000000 r.positions,
        const_le (λ x. eqb x.hour h) 20000000000000 r.reserves,
        const_le (λ x. eqb x.hour h) 80000000000000 r.interconnections,
        s.few_positions,
        s.few_interconnections,
        s.few_reserves,
      )

  -- over hours counted, no more than over all records
  pub day_small : (a n : ℕ) → sum_by (size r) (range_with_len a n) ≤ 44000000000000000
  day_small a n =
      let p = by_key_le (λ (x : Position). x.hour) (λ _. 20000000000000) 20000000000000 a n r.positions (all_any _ (λ x. omega arith) r.positions) in
      let t = by_key_le (λ (x : Interconnection). x.hour) (λ _. 80000000000000) 80000000000000 a n r.interconnections (all_any _ (λ x. omega arith) r.interconnections) in
      let q = by_key_le (λ (x : Reserve). x.hour) (λ _. 20000000000000) 20000000000000 a n r.reserves (all_any _ (λ x. omega arith) r.reserves) in
      let e = sum_by_add (λ h. size_p r h + size_x r h) (size_r r) (range_with_len a n) in
      let f = sum_by_add (size_p r) (size_x r) (range_with_len a n) in
      omega (arith, s.few_positions, s.few_interconnections, s.few_reserves)

  pub weights_light : (h : ℕ) → sum (weights Purchases r h) ≤ 2000000000
  weights_light h =
      let v : Position → ℕ = λ x. cond (eqb x.hour h) (purchase r x) 0 in
      let g = by_key_le (λ (x : Position). x.account) v 2000000 1 r.heading.accounts r.positions
      (all_map ValidPosition _ (λ x w. cond_le (eqb x.hour h) (purchase r x) 2000000 (cond_le _ x.real_time 2000000 w.real)) r.positions s.positions) in
      omega (arith, sum-map (purchases r h) (accounts r), s.few_positions)

  -- one account's limit
  abbrev limit : ℕ → ℕ
  limit a = sum_by (λ x. cond (eqb x.account a) 40000000000000 0) r.reserves

  failed_le : (x : Reserve) → ValidReserve x → nat_abs (failed_term x) ≤ 40000000000000
  failed_le x v = omega (arith, nat_abs_add (reserve_term DayAhead x) (reserve_term RealTime x), reserve_le DayAhead x v, reserve_le RealTime x v)

  both_le : (a b : Bool) (v : ℤ) (c : ℕ) → nat_abs v ≤ c → nat_abs (cond a (cond b v (pos 0)) (pos 0)) ≤ cond (a && b) c 0
  both_le true b v c h = counted_le b v c h
  both_le false b v c h = omega arith

  failed_sum_le : (a : ℕ) (f : Failure) → nat_abs (failed_among r.reserves f a) ≤ sum_by (λ x. cond (eqb x.account a && (eqb x.unit f.unit && eqb x.kind f.kind)) 40000000000000 0) r.reserves
  failed_sum_le a f =
      sum_le (λ x. owned_by x.account a (failing f x)) _ r.reserves
      (all_map ValidReserve _ (λ x v. both_le (eqb x.account a) (eqb x.unit f.unit && eqb x.kind f.kind) (failed_term x) 40000000000000 (failed_le x v)) r.reserves s.reserves)

  -- a reserve is in one penalty at most
  hit : (a : Bool) (fs : List Failure) (u k : ℕ) → sum_by (λ f. cond (eqb u f.unit && eqb k f.kind) 1 0) fs ≤ 1
      → sum_by (λ f. cond (a && (eqb u f.unit && eqb k f.kind)) 40000000000000 0) fs ≤ cond a 40000000000000 0
  hit true fs u k h = omega (arith, times_by (λ (f : Failure). eqb u f.unit && eqb k f.kind) 40000000000000 fs)
  hit false fs u k h = omega (arith, none_by fs)

  penalties_limit : (a : ℕ) → nat_abs (penalties r a) ≤ limit a
  penalties_limit a =
      let g : Failure → Reserve → ℕ = λ f x. cond (eqb x.account a && (eqb x.unit f.unit && eqb x.kind f.kind)) 40000000000000 0 in
      let one : nat_abs (penalties r a) ≤ sum_by (λ f. sum_by (g f) r.reserves) r.failures =
      sum_le (penalty_among r.reserves a) _ r.failures (all_any _ (λ f. omega (arith, zero_le (failed_among r.reserves f a), failed_sum_le a f)) r.failures) in
      let two = swap g r.failures r.reserves in
      let three : sum_by (λ x. sum_by (λ f. g f x) r.failures) r.reserves ≤ limit a = sum_by_mono _ _ (λ x. hit (eqb x.account a) r.failures x.unit x.kind (s.once x.unit x.kind)) r.reserves in
      omega arith

  pub penalties_le : (a : ℕ) → nat_abs (penalties r a) ≤ 16000000000000000
  penalties_le a = omega (arith, penalties_limit a, const_le (λ x. eqb x.account a) 40000000000000 r.reserves, s.few_reserves)

  pub all_penalties_le : (n : ℕ) → nat_abs (sum_over (penalties r) (range_with_len 1 n)) ≤ 16000000000000000
  all_penalties_le n =
      let p = by_key_le (λ (x : Reserve). x.account) (λ _. 40000000000000) 40000000000000 1 n r.reserves (all_any _ (λ x. omega arith) r.reserves) in
      omega (arith, sum_le (penalties r) limit (range_with_len 1 n) (all_any _ penalties_limit (range_with_len 1 n)), s.few_reserves)

  pub fines_le : (a : ℕ) → nat_abs (fines r a) ≤ 50000000000000000
  fines_le a =
      omega (
        arith,
        s.few_fines,
        const_le (λ x. eqb x.account a) 1000000000000000 r.fines,
        sum_le (λ x. owned_by x.account a (fine_mils x)) _ r.fines
            (all_map ValidFine _ (λ x v. counted_le (eqb x.account a) (fine_mils x) 1000000000000000 (omega (arith, v.centavos))) r.fines s.fines),
      )

  pub all_fines_le : nat_abs (all_fines r) ≤ 50000000000000000
  all_fines_le =
      omega (
        arith,
        s.few_fines,
        const_le (λ x. true) 1000000000000000 r.fines,
        sum_le fine_mils (λ x. 1000000000000000) r.fines (all_map ValidFine _ (λ x v. omega (arith, v.centavos)) r.fines s.fines),
      )

pub weights_length : (r : Records) (h : ℕ) → length (weights Purchases r h) ≡ r.heading.accounts
weights_length r h = length-map-range_with_len (purchases r h) 1 r.heading.accounts
