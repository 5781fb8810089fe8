-- A table that passes its test: each row is right.
use Rattle.std.proofs.Common.{◌≡◌, true, eqb, List, [], ◌∷◌, ℤ, pos, negsuc, refl, ap}
use Rattle.std.proofs.ByRecursion.{all-has}
use Rattle.std.proofs.lemmas.Bool.{and_parts, eqb-true, false≢true}
use Rattle.std.specs.List.{ContainsAt, AllByRecursion}
use Rattle.worked_days.specs.Examples.{Answer, Example, all_right, defined, expected, numbers, refused, same_answer, same_number, same_numbers}

number : (x y : ℤ) → same_number x y ≡ true → x ≡ y
number (pos m) (pos n) s = ap pos (eqb-true m n s)
number (pos m) (negsuc n) s = absurd (false≢true s)
number (negsuc m) (pos n) s = absurd (false≢true s)
number (negsuc m) (negsuc n) s = ap negsuc (eqb-true m n s)

list : (xs ys : List ℤ) → same_numbers xs ys ≡ true → xs ≡ ys
list [] [] s = refl
list [] (y ∷ ys) s = absurd (false≢true s)
list (x ∷ xs) [] s = absurd (false≢true s)
list (x ∷ xs) (y ∷ ys) s =
    let p = and_parts (same_number x y) (same_numbers xs ys) s in
    let head = number x y p.0 in
    let tail = list xs ys p.1 in
    cc

answer : (x y : Answer) → same_answer x y ≡ true → x ≡ y
answer (numbers xs) (numbers ys) s = ap numbers (list xs ys s)
answer (numbers xs) (refused n l) s = absurd (false≢true s)
answer (refused m k) (numbers ys) s = absurd (false≢true s)
answer (refused m k) (refused n l) s =
    let p = and_parts (eqb m n) (eqb k l) s in
    let number_is = eqb-true m n p.0 in
    let layer-is = eqb-true k l p.1 in
    cc

rows : (xs : List Example) → all_right xs ≡ true → AllByRecursion (λ x. defined x ≡ expected x) xs
rows [] s = tt
rows (x ∷ xs) s =
    let p = and_parts (same_answer (defined x) (expected x)) (all_right xs) s in
    (answer (defined x) (expected x) p.0, rows xs p.1)

pub each_row : (xs : List Example) → all_right xs ≡ true → (x : Example) → ContainsAt xs x → defined x ≡ expected x
each_row xs s x h = all-has (λ y. defined y ≡ expected y) xs x (rows xs s) h
