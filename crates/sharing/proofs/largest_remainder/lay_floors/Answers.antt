use Rattle.std.proofs.Common.{◌≡◌, ◌+◌, ◌*◌, ◌/◌, ◌%◌, ◌<◌, length, get_or, take, sum, sym, ap, ◌∙◌, arith}
use Rattle.std.proofs.lemmas.List.Edits.{fill_by_more}
use Rattle.std.proofs.lemmas.List.{ext_get_or}
use Rattle.std.proofs.lemmas.List.Sums.{sum_by_more, sum_by-take-le}
use Rattle.sharing.specs.LargestRemainder.{floors, remainders}
use Rattle.sharing.specs.LargestFair.{floor_at, floors_le, floors_long, remainder_at, remainders_long}
use Rattle.sharing.proofs.largest_remainder.lay_floors.Goals as goal

floor_here : (c : goal.After-struct_known-1) → c.portion-portion.result.quotient ≡ get_or (floors c.args.proportions.now.rate.amount c.args.proportions.now.weights.now) c.loop-i.i 0
floor_here c =
    let p = c.args.proportions.now in
    let a = p.rate.amount in
    let ws = p.weights.now in
    c.portion-portion.ensures.floor ∙ ap (λ n. (a * get_or ws c.loop-i.i 0) / n) p.whole ∙ sym (floor_at a ws c.loop-i.i c.loop-i-test.true)

rest_here : (c : goal.After-struct_known-1) → c.portion-portion.result.remainder ≡ get_or (remainders c.args.proportions.now.rate.amount c.args.proportions.now.weights.now) c.loop-i.i 0
rest_here c =
    let p = c.args.proportions.now in
    let a = p.rate.amount in
    let ws = p.weights.now in
    c.portion-portion.ensures.rest ∙ ap (λ n. (a * get_or ws c.loop-i.i 0) % n) p.whole ∙ sym (remainder_at a ws c.loop-i.i c.loop-i-test.true)

more : (c : goal.After-struct_known-1) → sum (take (c.loop-i.i + 1) (floors c.args.proportions.now.rate.amount c.args.proportions.now.weights.now)) ≡ sum (take c.loop-i.i (floors c.args.proportions.now.rate.amount c.args.proportions.now.weights.now)) + c.portion-portion.result.quotient
more c =
    let a = c.args.proportions.now.rate.amount in
    let ws = c.args.proportions.now.weights.now in
    let within : c.loop-i.i < length (floors a ws) = omega (arith, floors_long a ws) in
    omega (arith, sum_by_more (λ x. x) (floors a ws) c.loop-i.i 0 within, floor_here c)

pub overflow_sub-lacking : goal.overflow_sub-lacking
overflow_sub-lacking c =
    let p = c.args.proportions.now in
    let a = p.rate.amount in
    let ws = p.weights.now in
    let some : 0 < sum ws = omega (arith, p.whole, p.rate.some) in
    omega (arith, more c, sum_by-take-le (λ x. x) (floors a ws) (c.loop-i.i + 1), floors_le a ws some, c.loop-i.invariant.0)

pub loop-i-preserved : goal.loop-i-preserved
loop-i-preserved c =
    let a = c.args.proportions.now.rate.amount in
    let ws = c.args.proportions.now.weights.now in
    let i = c.loop-i.i in
    let in_shares : i < length c.loop-i.shares = omega (arith, c.requires.places) in
    let in_rests : i < length c.loop-i.rests = omega (arith, c.requires.room) in
    let enough = overflow_sub-lacking c in (
      omega (arith, more c, c.loop-i.invariant.0),
      rw (floor_here c) (fill_by_more (λ k. get_or (floors a ws) k 0) c.loop-i.shares i 0 in_shares c.loop-i.invariant.1),
      rw (rest_here c) (fill_by_more (λ k. get_or (remainders a ws) k 0) c.loop-i.rests i 0 in_rests c.loop-i.invariant.2),
    )

pub returns-clause-floors : goal.returns-clause-floors
returns-clause-floors c =
    let a = c.args.proportions.now.rate.amount in
    let ws = c.args.proportions.now.weights.now in
    ext_get_or 0 c.loop-i.shares (floors a ws) (omega (arith, floors_long a ws)) (λ k h. c.loop-i.invariant.1 k (omega arith))

pub returns-clause-rests : goal.returns-clause-rests
returns-clause-rests c =
    let a = c.args.proportions.now.rate.amount in
    let ws = c.args.proportions.now.weights.now in
    ext_get_or 0 c.loop-i.rests (remainders a ws) (omega (arith, remainders_long a ws)) (λ k h. c.loop-i.invariant.2 k (omega arith))
