-- Which records could have been entered as they stand, and what keeps them so.
use Rattle.std.specs.Prelude.{◌≡◌, ℕ, ◌+◌, Bool, true, not, ◌&&◌, List, is_some, Ok, ◌==◌}
use Rattle.dayfile.specs.Headings.{same_fields}
use Rattle.dayfile.specs.Records.{Records}
use Rattle.dayfile.specs.declared.heading.Heading.{Heading}
use Rattle.dayfile.specs.declared.record.Record.{Record}
use Rattle.rows.specs.Kinds.{price_terms, position_terms, interconnection_terms, reserve_terms, failure_terms, fine_terms}
use Rattle.rows.specs.Tables.{sound_table}
use Rattle.book.specs.Books.{admitted, counts_of, no_records, record_count, record_refusal, with_record}
use Rattle.book.specs.declared.counts.Counts.{Counts}

-- kind by kind, these records could have been entered in this order
abbrev pub sound_records : Records → Bool
sound_records b =
    sound_table price_terms b.heading b.prices
    && (sound_table position_terms b.heading b.positions
    && (sound_table interconnection_terms b.heading b.interconnections
    && (sound_table reserve_terms b.heading b.reserves
    && (sound_table failure_terms b.heading b.failures
    && sound_table fine_terms b.heading b.fines))))

abbrev pub same_counts : Counts → Counts → Bool
same_counts c d =
    (c.prices == d.prices) && (c.positions == d.positions && (c.interconnections == d.interconnections
    && (c.reserves == d.reserves && (c.failures == d.failures && c.fines == d.fines))))

-- sound records with this heading and these counts
abbrev pub records_of_day : Heading → Counts → Records → Bool
records_of_day heading counts b = same_fields heading b.heading && (same_counts counts (counts_of b) && sound_records b)

-- a book that was opened is sound
abbrev pub OpenedIsSound : Type 0
OpenedIsSound = (heading : Heading) → sound_records (no_records heading) ≡ true

-- with one more record a book is sound exactly if it was and the record could be entered
abbrev pub SoundWithRecord : Type 0
SoundWithRecord = (b : Records) (x : Record) → sound_records (with_record b x) ≡ (sound_records b && not (is_some (record_refusal b x)))

-- an accepted enter leaves a sound book sound, with one record more
abbrev pub EnteringKeepsSound : Type 0
EnteringKeepsSound = (b : Records) (bytes : List ℕ) (x : Record) → sound_records b ≡ true → admitted b bytes ≡ Ok x
    → (sound_records (with_record b x) ≡ true) × (record_count (with_record b x) ≡ record_count b + 1)

-- sound records are those of the day with their heading and counts
abbrev pub SoundIsOfItsDay : Type 0
SoundIsOfItsDay = (b : Records) → records_of_day b.heading (counts_of b) b ≡ sound_records b

-- records of a day have its heading and counts, and no other
abbrev pub DayTellsHeadingAndCounts : Type 0
DayTellsHeadingAndCounts = (heading : Heading) (counts : Counts) (b : Records) → records_of_day heading counts b ≡ true
    → (b.heading ≡ heading) × (counts_of b ≡ counts) × (sound_records b ≡ true)
