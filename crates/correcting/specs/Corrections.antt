-- What a correction keeps.
use Rattle.std.specs.Prelude.{◌≡◌, true, Ok}
use Rattle.dayfile.specs.Records.{Records}
use Rattle.book.specs.Books.{counts_of}
use Rattle.book.specs.Soundness.{sound_records}
use Rattle.correcting.specs.Readings.{correction, with_reading}
use Rattle.correcting.specs.declared.reading.Reading.{Reading}

-- a reading that is corrected leaves a sound book sound, with as many records of each kind
abbrev pub CorrectingKeepsSound : Type 0
CorrectingKeepsSound = (b : Records) (reading : Reading) → sound_records b ≡ true → correction b reading ≡ Ok reading
    → (sound_records (with_reading b reading) ≡ true) × (counts_of (with_reading b reading) ≡ counts_of b)
