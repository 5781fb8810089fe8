use Rattle.std.proofs.Common.{ap, ◌∙◌, arith, w64}
use Rattle.std.proofs.lemmas.Int.{to_z-of_z}
use Rattle.book.specs.Books.{held}
use Rattle.codes.specs.Sums.{sum_over}
use Rattle.valuation.specs.Terms.{fine_mils}
use Rattle.bounds.proofs.Bounds.{all_fines_le}
use Rattle.bounds.proofs.Facts.{sound_facts}
use Rattle.settlement.proofs.priced.PricedBook.total_fines.Goals as goal

pub sum_of-requires : goal.sum_of-requires
sum_of-requires c =
    let s = sound_facts (held c.args.self.now.book.now) c.args.self.now.sound in
    record { few = rw c.as_slice.ensures.value (omega (arith, s.few_fines)); valid = rw c.as_slice.ensures.value s.fines }

pub returns : goal.returns
returns c =
    let r = held c.args.self.now.book.now in
    let e = to_z-of_z w64 c.sum_of.result (record { sfits = c.sum_of.type_inv }) ∙ c.sum_of.ensures ∙ ap (sum_over fine_mils) c.as_slice.ensures.value in
    record { value = e; bound = rw e (all_fines_le r (sound_facts r c.args.self.now.sound)) }
