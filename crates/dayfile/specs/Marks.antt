-- The marks of the day file: the two letters of each, and the length of its record, the mark included.
use Rattle.std.specs.Prelude.{ℕ, Bool, cond, ◌&&◌, List, Some, None, codes, Option, ◌==◌, length, nat_lt, slice_index}
use Rattle.dayfile.specs.declared.mark.Mark.{Mark}
use Rattle.dayfile.specs.declared.mark.Mark.TheVariants.{Day, Price, Position, Interconnection, Reserve, Failure, Fine, End}

abbrev pub layout : Mark → List ℕ × ℕ
layout Day = (codes "DY", 10)
layout Price = (codes "PN", 12)
layout Position = (codes "EN", 14)
layout Interconnection = (codes "IX", 26)
layout Reserve = (codes "RS", 22)
layout Failure = (codes "FT", 4)
layout Fine = (codes "MU", 15)
layout End = (codes "ZZ", 4)

abbrev pub mark_letters : Mark → List ℕ
mark_letters m = (layout m).0

abbrev pub mark_length : Mark → ℕ
mark_length m = (layout m).1

-- are these the letters of the mark?
abbrev pub marked : Mark → ℕ → ℕ → Bool
marked m first second = first == slice_index (mark_letters m) 0 && second == slice_index (mark_letters m) 1

abbrev pub mark_of : ℕ → ℕ → Option Mark
mark_of first second =
    cond (marked Day first second) (Some Day)
    (cond (marked Price first second) (Some Price)
    (cond (marked Position first second) (Some Position)
    (cond (marked Interconnection first second) (Some Interconnection)
    (cond (marked Reserve first second) (Some Reserve)
    (cond (marked Failure first second) (Some Failure)
    (cond (marked Fine first second) (Some Fine)
    (cond (marked End first second) (Some End) None)))))))

-- the mark that the bytes begin with, if two letters of one do
abbrev pub mark_at_front : List ℕ → Option Mark
mark_at_front bytes = cond (nat_lt (length bytes) 2) None (mark_of (slice_index bytes 0) (slice_index bytes 1))
