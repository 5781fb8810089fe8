use Rattle.std.proofs.Common.{◌≡◌, ◌≤◌, length, get_or, sym, ◌∙◌, arith, rules}
use Rattle.std.proofs.iter.runs.Made.{chains}
use Rattle.std.proofs.lemmas.Fmt.{length-decimal-le}
use Rattle.std.proofs.lemmas.List.Concat.{length-flat_map}
use Rattle.std.proofs.lemmas.List.Elements.{All-from_get_or}
use Rattle.std.proofs.lemmas.List.Sums.{sum_by-le}
use Rattle.std.specs.List.{sum_by}
use Rattle.text.specs.Lines.{word}
use Rattle.text.proofs.write.words_length.Goals as goal

pub returns : goal.returns
returns c =
    let ns = c.args.numbers.now in
    let summed : c.sum.result ≡ sum_by (λ n. length (word n)) ns = search (rules, chains) in
    let short = All-from_get_or (λ n. length (word n) ≤ 21) ns 0 (λ i h. omega (arith, length-decimal-le 20 (get_or ns i 0) (omega arith) (omega (arith, c.type_inv.numbers i)) (omega (arith, c.type_inv.numbers i)))) in
    record { value = summed ∙ sym (length-flat_map word ns); bound = omega (arith, summed, sum_by-le (λ n. length (word n)) 21 ns short) }
