-- The parties and their numbers.
use Rattle.std.specs.Prelude.{ℕ, suc, ◌+◌, cond, List, [], ◌∷◌, ◌++◌, length, Some, None, Option, ◌==◌, slice_get}
use Rattle.std.specs.List.{range_with_len}
use Rattle.std.specs.Option.{option_map}
use Rattle.codes.specs.declared.code.PartyKind.{PartyKind}
use Rattle.codes.specs.declared.code.PartyKind.TheVariants.{Account, ExternalSystem, WorkingCapitalFund, UniversalServiceFund}

-- the party numbers of each kind: accounts from 1, external systems from 41
abbrev pub parties_of : PartyKind → List ℕ
parties_of Account = range_with_len 1 32
parties_of ExternalSystem = range_with_len 41 4
parties_of WorkingCapitalFund = 51 ∷ []
parties_of UniversalServiceFund = 52 ∷ []

-- the party number of an external system
abbrev pub system_party : ℕ → ℕ
system_party system = 40 + system

-- every party, in the order of the numbers
abbrev pub party_numbers : List ℕ
party_numbers = parties_of Account ++ (parties_of ExternalSystem ++ (parties_of WorkingCapitalFund ++ parties_of UniversalServiceFund))

abbrev pub party_count : ℕ
party_count = length party_numbers

-- the party at a place of that order
abbrev pub party_at : ℕ → Option ℕ
party_at place = slice_get party_numbers place

-- where a number stands first in a list
abbrev pub place_in : List ℕ → ℕ → Option ℕ
place_in [] n = None
place_in (x ∷ xs) n = cond (n == x) (Some 0) (option_map suc (place_in xs n))

abbrev pub party_place : ℕ → Option ℕ
party_place party = place_in party_numbers party
