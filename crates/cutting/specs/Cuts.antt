-- Where a file is cut into records.
use Rattle.std.specs.Prelude.{ℕ, ◌+◌, cond, List, length, take, drop, Some, None, Ok, Err, Option, Result, nat_le, nat_lt}
use Rattle.std.specs.Borrow.{Bor}
use Rattle.faults.specs.Places.{plain, reading_at}
use Rattle.faults.specs.declared.fault.Fault.{Fault}
use Rattle.faults.specs.declared.refusal.Refusal.{Refusal}
use Rattle.faults.specs.declared.refusal.Refusal.TheVariants.{UnknownMark, WrongLength}
use Rattle.dayfile.specs.Marks.{mark_length, mark_of}
use Rattle.dayfile.specs.declared.mark.Mark.{Mark}
use Rattle.decoding.specs.Fields.{byte}

-- as many bytes as the mark asks for, if there are so many
abbrev pub front : List ℕ → Option Mark → Result (List ℕ) Refusal
front bytes None = Err UnknownMark
front bytes (Some m) = cond (nat_le (mark_length m) (length bytes)) (Ok (take (mark_length m) bytes)) (Err WrongLength)

-- the record that the bytes begin with
abbrev pub first_record : List ℕ → Result (List ℕ) Refusal
first_record bytes = cond (nat_lt (length bytes) 2) (Err UnknownMark) (front bytes (mark_of (byte bytes 0) (byte bytes 1)))

-- a refusal has the offset for its place
abbrev pub placed_at : ℕ → Result (List ℕ) Refusal → Result (List ℕ) Fault
placed_at offset (Ok part) = Ok part
placed_at offset (Err refusal) = Err (reading_at offset (plain refusal))

-- the record that begins at the offset
abbrev pub cut_at : List ℕ → ℕ → Result (List ℕ) Fault
cut_at file offset = placed_at offset (first_record (drop offset file))

-- where the next record begins; a refusal moves nothing
abbrev pub past : ℕ → Result (List ℕ) Fault → ℕ
past offset (Ok part) = offset + length part
past offset (Err fault) = offset

-- the bytes that are lent
abbrev pub lent : {E : Type 0} → Result (Bor (List ℕ)) E → Result (List ℕ) E
lent (Ok part) = Ok part.now
lent (Err e) = Err e
