use Rattle.std.proofs.Common.{◌≡◌, ◌+◌, ◌*◌, length, set, Some, sym, ap, ◌∙◌, w64, rules}
use Rattle.std.proofs.lemmas.Int.{to_z-of_z}
use Rattle.codes.specs.Cells.{cell_count}
use Rattle.codes.specs.Parties.{party_count, party_place}
use Rattle.codes.proofs.Puts.{put_somewhere}
use Rattle.codes.proofs.table.Table.put.Goals as goal

pub returns-in-Some : goal.returns-in-Some
returns-in-Some c =
    let t = c.args.self.now in
    let e : party_place c.args.party ≡ Some c.in-Some.place = sym c.in-Some.ensures.value in
    let long : length t.cells ≡ cell_count = search rules in
    put_somewhere t _ c.args.code c.args.party c.args.amount c.in-Some.place e long
    (ap (λ z. set t.cells (c.index.result * party_count + c.in-Some.place) z) (to_z-of_z w64 c.args.amount c.ranges.amount)
    ∙ ap (λ i. set t.cells (i * party_count + c.in-Some.place) c.args.amount) c.index.ensures.value)
