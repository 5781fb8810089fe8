use Rattle.std.proofs.Common.{◌≡◌, ℕ, suc, ◌-◌, ◌<◌, length}
use Rattle.book.specs.Books.{held}
use Rattle.loading.specs.Loading.{records_from}
use Rattle.loading.proofs.load.read_records.Given as goal

-- what is left of the file decides, with enough turns for it
abbrev pub invariant-loop : goal.invariant-loop
invariant-loop l =
    let file = l.initial.reader.file.now in
    (l.reader.file.now ≡ file)
    × ((n : ℕ) × (length file - l.reader.offset < n)
    × (records_from (suc (length file)) file l.initial.reader.offset (held l.initial.book) ≡ records_from n file l.reader.offset (held l.book)))

abbrev pub decreases-loop : goal.decreases-loop
decreases-loop l = length l.reader.file.now - l.reader.offset
