-- How a day begins from a file.
use Rattle.std.proofs.Common.{◌≡◌, ℕ, List, Ok, Err, Result, refl, ap, arith}
use Rattle.faults.specs.declared.fault.Fault.{Fault}
use Rattle.decoding.specs.Decoded.{and_then}
use Rattle.dayfile.specs.Records.{Records}
use Rattle.dayfile.specs.declared.heading.Heading.{Heading}
use Rattle.book.specs.Books.{answer}
use Rattle.loading.specs.Loading.{file_records, left_under, load_leaves, opening, records_or_none, records_under}
use Rattle.day.specs.Calls.{first_numbers, load_answer}
use Rattle.day.specs.declared.stage.Closed as closed_stage
use Rattle.day.specs.States.{day_with}

-- an accepted load leaves the records of the file
left_whole : (old : Heading) (file : List ℕ) (o : Result Heading Fault) (r : Records) → and_then o (records_under file) ≡ Ok r → left_under old file o ≡ r
left_whole old file (Err f) r e = let z : ◌≡◌ {A = ℕ} 0 1 = cc in absurd (omega arith)
left_whole old file (Ok heading) r e = ap (records_or_none heading) e

pub left_by_load : (b : Records) (file : List ℕ) (r : Records) → file_records file ≡ Ok r → load_leaves b file ≡ r
left_by_load b file r e = left_whole b.heading file (opening file) r e

-- and a day with them
pub loaded_day : (b : Records) (file : List ℕ) → Ok tt ≡ answer (file_records file) → Ok (day_with {S = closed_stage.Closed} (first_numbers (load_leaves b file))) ≡ load_answer (file_records file)
loaded_day b file e = go (file_records file) refl e
  where
    go : (o : Result Records Fault) → file_records file ≡ o → Ok tt ≡ answer o → Ok (day_with {S = closed_stage.Closed} (first_numbers (load_leaves b file))) ≡ load_answer o
    go (Ok r) p e = ap (λ x. Ok (day_with {S = closed_stage.Closed} (first_numbers x))) (left_by_load b file r p)
    go (Err f) p e = let z : ◌≡◌ {A = ℕ} 0 1 = cc in absurd (omega arith)

pub refused_file : (o : Result Records Fault) (f : Fault) → Err f ≡ answer o → Err f ≡ load_answer o
refused_file (Ok r) f e = let z : ◌≡◌ {A = ℕ} 0 1 = cc in absurd (omega arith)
refused_file (Err g) f e = cc
