-- A price found among valid ones is valid.
use Rattle.std.proofs.Common.{ℕ, true, false, cond, List, [], ◌∷◌, Some, None, Option}
use Rattle.std.specs.List.{AllByRecursion}
use Rattle.dayfile.specs.declared.record.Price.{Price}
use Rattle.closing.specs.Prices.{is_price_of}
use Rattle.price_grid.specs.Found.{price_at}
use Rattle.valuation.specs.Valid.{ValidPrice}

-- what is found is valid
abbrev pub ValidFound : Option Price → Type 0
ValidFound (Some p) = ValidPrice p
ValidFound None = Unit {0}

pub found_valid : (ps : List Price) (node hour : ℕ) → AllByRecursion ValidPrice ps → ValidFound (price_at ps node hour)
found_valid [] node hour h = tt
found_valid (p ∷ ps) node hour h =
    elim (is_price_of node hour p) as (λ b. ValidFound (cond b (Some p) (price_at ps node hour)))
    [ true ↦ h.0 | false ↦ found_valid ps node hour h.1 ]
