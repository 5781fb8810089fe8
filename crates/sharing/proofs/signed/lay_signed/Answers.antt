use Rattle.std.proofs.Common.{pos, sym, ◌∙◌, arith}
use Rattle.std.proofs.lemmas.List.{ext_get_or, get_or-map, length-map}
use Rattle.std.proofs.lemmas.Int.{to_z-of_z}
use Rattle.sharing.specs.Signed.{with_sign_of}
use Rattle.sharing.proofs.signed.lay_signed.Goals as goal

pub returns : goal.returns
returns c =
    let xs = c.args.parts.now in
    let fits = c.ranges.amount in
    let z = c.args.amount in
    ext_get_or (pos 0) c.loop-i.shares _ (c.loop-i.auto.shares ∙ c.requires.places ∙ sym (length-map xs (with_sign_of z)))
    (λ k h. (simp to_z-of_z at (c.loop-i.invariant k (omega arith))) ∙ sym (get_or-map (with_sign_of z) xs k 0 (pos 0) (omega arith)))
