-- The text of a day, case by case.
use Rattle.std.proofs.Common.{◌≡◌, ℕ, ◌≤◌, true, List, ℤ, nat_abs, Some, None, Ok, Err, Option, Result, sym, refl, ap, ◌∙◌, arith}
use Rattle.faults.specs.declared.fault.Fault.{Fault}
use Rattle.faults.specs.declared.fault.Place.{Place}
use Rattle.dayfile.specs.Records.{Records}
use Rattle.dayfile.specs.declared.heading.Heading.{Heading}
use Rattle.book.specs.Books.{answer}
use Rattle.closing.specs.Prices.{first_unpriced}
use Rattle.book.specs.Soundness.{sound_records}
use Rattle.codes.specs.Cells.{cell}
use Rattle.codes.specs.declared.code.Code.{Code}
use Rattle.codes.specs.declared.table.Table.{Table}
use Rattle.amounts.specs.Amounts.{first_lacking, Scope}
use Rattle.ledger.specs.Issues.{notes_of}
use Rattle.loading.specs.Loading.{file_records, left_under, load_leaves, opening, records_or_none, records_under}
use Rattle.loading.proofs.Whole.{loaded_is_sound}
use Rattle.decoding.specs.Decoded.{and_then}
use Rattle.settlement.specs.Days.{Filled, Holds, day_cell, lacking_fault, outcome, settle_refusal}
use Rattle.settlement_laws.proofs.Balance.{cells_are_small}
use Rattle.sharing.specs.Running.{running}
use Rattle.sharing.specs.RunningFair.{running_fair}
use Rattle.day_text.specs.Texts.{first_notes}

-- how a settlement came out
pub ok_settled : (o : Option Fault) → Ok tt ≡ outcome o → o ≡ None
ok_settled None e = refl
ok_settled (Some f) e = let z : ◌≡◌ {A = ℕ} 0 1 = cc in absurd (omega arith)

pub err_settled : (o : Option Fault) (f : Fault) → Err f ≡ outcome o → o ≡ Some f
err_settled None f e = let z : ◌≡◌ {A = ℕ} 0 1 = cc in absurd (omega arith)
err_settled (Some g) f e = cc

-- a day that is settled lacks no purchases
lacks_none : (o : Option Scope) → lacking_fault o ≡ None → o ≡ None
lacks_none None e = refl
lacks_none (Some h) e = let z : ◌≡◌ {A = ℕ} 0 1 = cc in absurd (omega arith)

pub not_lacking : (r : Records) → settle_refusal r ≡ None → first_lacking r ≡ None
not_lacking r e = go (first_unpriced r) refl
  where
    go : (o : Option Place) → first_unpriced r ≡ o → first_lacking r ≡ None
    go None p = lacks_none (first_lacking r) (rw p at e)
    go (Some place) p = let q = rw p at e in let z : ◌≡◌ {A = ℕ} 0 1 = cc in absurd (omega arith)

pub filled : (o : Option Fault) (t u : Table) (f : Code → ℕ → ℤ) → o ≡ None → Filled o t u f → Holds u f
filled None t u f e h = h
filled (Some g) t u f e h = let z : ◌≡◌ {A = ℕ} 0 1 = cc in absurd (omega arith)

pub small_cells : (r : Records) (u : Table) → sound_records r ≡ true → settle_refusal r ≡ None → Holds u (day_cell running r)
    → (code : Code) (party : ℕ) → nat_abs (cell u code party) ≤ 50000000000000000
small_cells r u s e h code party = omega (arith, ap nat_abs (h code party), cells_are_small running running_fair r s (not_lacking r e) code party)

pub same_notes : (r : Records) (u : Table) → Holds u (day_cell running r) → notes_of 0 (cell u) ≡ first_notes r
same_notes r u h = ap (notes_of 0) (λ i code party. h code party i)

-- an accepted load leaves the records of the file, and they are sound
loaded_leaves : (old : Heading) (file : List ℕ) (o : Result Heading Fault) (r : Records) → and_then o (records_under file) ≡ Ok r → left_under old file o ≡ r
loaded_leaves old file (Err f) r e = let z : ◌≡◌ {A = ℕ} 0 1 = cc in absurd (omega arith)
loaded_leaves old file (Ok heading) r e = ap (records_or_none heading) e

ok_answer : {X : Type 0} (o : Result X Fault) → Ok tt ≡ answer o → (x : X) × (o ≡ Ok x)
ok_answer (Ok x) e = (x, refl)
ok_answer (Err f) e = let z : ◌≡◌ {A = ℕ} 0 1 = cc in absurd (omega arith)

pub err_answer : {X : Type 0} (o : Result X Fault) (f : Fault) → Err f ≡ answer o → o ≡ Err f
err_answer (Ok x) f e = let z : ◌≡◌ {A = ℕ} 0 1 = cc in absurd (omega arith)
err_answer (Err g) f e = cc

pub record Loaded (file : List ℕ) (held : Records) : Type 0 where
  pub records : file_records file ≡ Ok held
  pub sound : sound_records held ≡ true

pub accepted_load : (file : List ℕ) (b held : Records) → Ok tt ≡ answer (file_records file) → held ≡ load_leaves b file → Loaded file held
accepted_load file b held e left =
    let p = ok_answer (file_records file) e in
    let is : held ≡ p.0 = left ∙ loaded_leaves b.heading file (opening file) p.0 p.1 in
    let records : file_records file ≡ Ok held = p.1 ∙ ap Ok (sym is) in
    record { records = records; sound = (loaded_is_sound file held records).0 }
