-- The first place without a price, among those of one list or of two.
use Rattle.std.proofs.Common.{◌≡◌, Bool, true, false, cond, not, List, [], ◌∷◌, ◌++◌, map, find, Some, None, Option, refl, ap, ◌∙◌}
use Rattle.std.specs.Option.{option_or}
use Rattle.std.proofs.lemmas.List.Folds.{find-append}
use Rattle.faults.specs.declared.fault.Place.{Place}
use Rattle.dayfile.specs.declared.record.Price.{Price}
use Rattle.closing.specs.Prices.{first_unpriced_among, has_price, or_else}

abbrev pub lacks_price : List Price → Place → Bool
lacks_price prices p = not (has_price prices p.node p.hour)

swapped : {X : Type 0} (b : Bool) (x y : X) → cond (not b) x y ≡ cond b y x
swapped true x y = refl
swapped false x y = refl

found : {X : Type 0} (place : X → Place) (prices : List Price) (xs : List X)
    → find (lacks_price prices) (map place xs) ≡ first_unpriced_among place prices xs
found place prices [] = refl
found place prices (x ∷ xs) =
    swapped (has_price prices (place x).node (place x).hour) (Some (place x)) (find (lacks_price prices) (map place xs))
    ∙ ap (λ o. cond (has_price prices (place x).node (place x).hour) o (Some (place x))) (found place prices xs)

either : (o p : Option Place) → option_or o p ≡ or_else o p
either None p = refl
either (Some x) p = refl

pub found_in_two : {X Y : Type 0} (place : X → Place) (other : Y → Place) (prices : List Price) (xs : List X) (ys : List Y)
    → find (lacks_price prices) (map place xs ++ map other ys)
    ≡ or_else (first_unpriced_among place prices xs) (first_unpriced_among other prices ys)
found_in_two place other prices xs ys =
    find-append (lacks_price prices) (map place xs) (map other ys)
    ∙ either (find (lacks_price prices) (map place xs)) (find (lacks_price prices) (map other ys))
    ∙ ap (λ o. or_else o (find (lacks_price prices) (map other ys))) (found place prices xs)
    ∙ ap (or_else (first_unpriced_among place prices xs)) (found other prices ys)
