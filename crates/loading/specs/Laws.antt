-- What an accepted load is, in terms of the calls that it stands for.
use Rattle.std.specs.Prelude.{◌≡◌, ℕ, true, List, [], ◌∷◌, ◌++◌, None, Ok, Result}
use Rattle.std.specs.List.{flat_map}
use Rattle.faults.specs.declared.fault.Fault.{Fault}
use Rattle.dayfile.specs.Records.{Records}
use Rattle.dayfile.specs.declared.heading.Heading.{Heading}
use Rattle.decoding.specs.Decoded.{and_then, decoded_heading}
use Rattle.book.specs.Books.{admitted, no_records, with_record}
use Rattle.book.specs.Soundness.{sound_records}
use Rattle.closing.specs.Prices.{closing, first_unpriced}
use Rattle.loading.specs.Loading.{file_records}

-- the records after each of these was entered, in this order, or the first fault
abbrev pub entered_in_turn : Records → List (List ℕ) → Result Records Fault
entered_in_turn b [] = Ok b
entered_in_turn b (part ∷ parts) = and_then (admitted b part) (λ x. entered_in_turn (with_record b x) parts)

-- a file of a heading, records and an end that the three calls accept one after the other, and the records that they leave
pub record Accepted (file : List ℕ) (b : Records) : Type 0 where
  pub first : List ℕ
  pub parts : List (List ℕ)
  pub last : List ℕ
  pub heading : Heading
  pub whole : file ≡ first ++ (flat_map (λ part. part) parts ++ last)
  pub opens : decoded_heading first ≡ Ok heading
  pub enters : entered_in_turn (no_records heading) parts ≡ Ok b
  pub closes : closing b last ≡ Ok tt

-- a load is accepted exactly if its file is such a file, and leaves the same records
abbrev pub LoadIsOpenEnterClose : Type 0
LoadIsOpenEnterClose = (file : List ℕ) (b : Records) → (file_records file ≡ Ok b → Accepted file b) × (Accepted file b → file_records file ≡ Ok b)

-- what a load accepts is sound, and every record has the price that it needs
abbrev pub LoadedIsSound : Type 0
LoadedIsSound = (file : List ℕ) (b : Records) → file_records file ≡ Ok b → (sound_records b ≡ true) × (first_unpriced b ≡ None)
