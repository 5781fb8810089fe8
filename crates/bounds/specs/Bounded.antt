-- What a sound book bounds.
use Rattle.std.specs.Prelude.{◌≡◌, ◌≤◌, true, sum, unsigned_abs}
use Rattle.dayfile.specs.Records.{Records}
use Rattle.book.specs.Soundness.{sound_records}
use Rattle.codes.specs.declared.code.Basis.TheVariants.{Purchases}
use Rattle.codes.specs.declared.code.Code.{Code}
use Rattle.valuation.specs.Valid.{Sound}
use Rattle.amounts.specs.Amounts.{Scope, shared, weights}

-- every field is in its range, no table is overfull, every account is listed, and no failure stands twice
abbrev pub SoundBooksHaveValidRecords : Type 0
SoundBooksHaveValidRecords = (r : Records) → sound_records r ≡ true → Sound r

-- what is shared and what it is shared by keep within a sharing rule's limits
abbrev pub SoundBooksCanBeShared : Type 0
SoundBooksCanBeShared = (r : Records) → sound_records r ≡ true → (scope : Scope)
    → (sum (weights Purchases r scope) ≤ 2000000000) × ((code : Code) → unsigned_abs (shared r scope code) ≤ 44000000000000000)
