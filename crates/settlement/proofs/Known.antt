-- Accounts and external systems are parties.
use Rattle.std.proofs.Common.{◌≡◌, ℕ, ◌+◌, ◌-◌, ◌≤◌, true, is_some, sym, refl, ap, ◌∙◌, arith}
use Rattle.codes.specs.Parties.{party_place, system_party}
use Rattle.codes.proofs.Places.{all_below, each_below}

accounts : all_below 32 (λ n. is_some (party_place (1 + n))) ≡ true
unfolding all_below
accounts = refl

systems : all_below 4 (λ n. is_some (party_place (41 + n))) ≡ true
unfolding all_below
systems = refl

pub known_account : (account : ℕ) → 1 ≤ account → account ≤ 32 → is_some (party_place account) ≡ true
known_account account l h =
    let e : 1 + (account - 1) ≡ account = omega arith in
    sym (ap (λ n. is_some (party_place n)) e) ∙ each_below 32 (λ n. is_some (party_place (1 + n))) accounts (account - 1) (omega arith)

pub known_system : (system : ℕ) → 1 ≤ system → system ≤ 4 → is_some (party_place (system_party system)) ≡ true
known_system system l h =
    let e : 41 + (system - 1) ≡ system_party system = omega arith in
    sym (ap (λ n. is_some (party_place n)) e) ∙ each_below 4 (λ n. is_some (party_place (41 + n))) systems (system - 1) (omega arith)
