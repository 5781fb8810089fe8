use Rattle.std.proofs.Common.{◌≡◌, length, refl, ap, ◌∙◌, arith}
use Rattle.std.proofs.lemmas.List.{with_items_is}
use Rattle.book.proofs.Held.{same_records}
use Rattle.correcting.specs.Readings.{read_position, reread_at}
use Rattle.correcting.proofs.correct.put_reading.Goals as goal

pub returns : goal.returns
returns c =
    let e = c.replace_reading.ensures in
    let v = c.as_mut_slice.ensures in
    let reading = c.args.reading in
    let long : length c.replace_reading.new.positions ≡ c.args.book.now.positions.len = omega (arith, c.replace_reading.auto.positions) in
    same_records _ _ refl refl
    (with_items_is c.args.book.now.positions c.replace_reading.new.positions long ∙ e.after
    ∙ ap (λ xs. reread_at xs (read_position xs reading) reading.real_time) v.value)
    refl refl refl refl
