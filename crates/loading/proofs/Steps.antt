-- One record after another.
use Rattle.std.proofs.Common.{◌≡◌, ℕ, zero, suc, ◌+◌, ◌-◌, ◌<◌, ◌≤◌, Bool, true, false, cond, List, length, is_ok, Ok, Err, Result, sym, refl, ap, ◌∙◌, arith}
use Rattle.faults.specs.Places.{reading_at}
use Rattle.faults.specs.declared.fault.Fault.{Fault}
use Rattle.dayfile.specs.Records.{Records}
use Rattle.dayfile.specs.declared.heading.Heading.{Heading}
use Rattle.dayfile.specs.declared.record.Record.{Record}
use Rattle.decoding.specs.Decoded.{and_then, decoded_end}
use Rattle.cutting.specs.Cuts.{cut_at, past}
use Rattle.book.specs.Books.{admitted, answer, entered, no_records, opened}
use Rattle.loading.specs.Loading.{after_end, after_entry, after_record, at_offset, file_records, follow, goes_on, is_over, left_under, load_leaves, opening, records_from, records_or_none, records_under, step}

entry_ok : (next offset : ℕ) (b : Records) (o : Result Record Fault) → Ok tt ≡ answer o → goes_on next (entered b o) ≡ after_entry next b (at_offset offset o)
entry_ok next offset b (Ok x) e = refl
entry_ok next offset b (Err f) e = let z : ◌≡◌ {A = ℕ} 0 1 = cc in absurd (omega arith)

entry_err : (next offset : ℕ) (b : Records) (f : Fault) (o : Result Record Fault) → at_offset offset (answer o) ≡ Err f
    → is_over (Err f) ≡ after_entry next b (at_offset offset o)
entry_err next offset b f (Ok x) e = let z : ◌≡◌ {A = ℕ} 0 1 = cc in absurd (omega arith)
entry_err next offset b f (Err g) e = let z : f ≡ reading_at offset g = cc in ap (λ h. is_over (Err h)) z

-- which of the two a record is
pub ends : (last : Bool) (offset : ℕ) (b : Records) (part : List ℕ) → is_ok (decoded_end part) ≡ true
    → after_record last offset b part ≡ is_over (at_offset offset (after_end last b part))
ends last offset b part e =
    ap (λ t. cond t (is_over (at_offset offset (after_end last b part))) (after_entry (offset + length part) b (at_offset offset (admitted b part)))) e

enters : (last : Bool) (offset : ℕ) (b : Records) (part : List ℕ) → is_ok (decoded_end part) ≡ false
    → after_record last offset b part ≡ after_entry (offset + length part) b (at_offset offset (admitted b part))
enters last offset b part e =
    ap (λ t. cond t (is_over (at_offset offset (after_end last b part))) (after_entry (offset + length part) b (at_offset offset (admitted b part)))) e

pub enters_ok : (last : Bool) (offset : ℕ) (b : Records) (part : List ℕ) → is_ok (decoded_end part) ≡ false → Ok tt ≡ answer (admitted b part)
    → goes_on (offset + length part) (entered b (admitted b part)) ≡ after_record last offset b part
enters_ok last offset b part n e = entry_ok (offset + length part) offset b (admitted b part) e ∙ sym (enters last offset b part n)

pub enters_err : (last : Bool) (offset : ℕ) (b : Records) (part : List ℕ) (f : Fault) → is_ok (decoded_end part) ≡ false
    → at_offset offset (answer (admitted b part)) ≡ Err f → is_over (Err f) ≡ after_record last offset b part
enters_err last offset b part f n e = entry_err (offset + length part) offset b f (admitted b part) e ∙ sym (enters last offset b part n)

-- with enough turns left, a record that leads on leaves enough
pub goes_further : (n : ℕ) (file : List ℕ) (at at' : ℕ) (b b' : Records) (total : Result Records Fault)
    → length file - at < n → at < at' → at' ≤ length file → goes_on at' b' ≡ step file at b → total ≡ records_from n file at b
    → (m : ℕ) × (length file - at' < m) × (total ≡ records_from m file at' b')
unfolding records_from
goes_further zero file at at' b b' total enough on inside e inv = absurd (omega arith)
goes_further (suc m) file at at' b b' total enough on inside e inv = (m, omega arith, inv ∙ ap (follow (records_from m file)) (sym e))

pub stops : (n : ℕ) (file : List ℕ) (at : ℕ) (b : Records) (answer total : Result Records Fault)
    → length file - at < n → is_over answer ≡ step file at b → total ≡ records_from n file at b → answer ≡ total
unfolding records_from
stops zero file at b answer total enough e inv = absurd (omega arith)
stops (suc m) file at b answer total enough e inv = sym (inv ∙ ap (follow (records_from m file)) (sym e))

-- a load that opened, and one that did not
run : List ℕ → ℕ → Records → Result Records Fault
run file at b = records_from (suc (length file)) file at b

opened_ok : (file F : List ℕ) (at : ℕ) (b B R : Records) (r : Result (Unit {0}) Fault) (o : Result Heading Fault)
    → F ≡ file → at ≡ past 0 (cut_at file 0) → Ok tt ≡ answer o → B ≡ opened b o
    → r ≡ answer (run F at B) → R ≡ records_or_none B.heading (run F at B)
    → (r ≡ answer (and_then o (records_under file))) × (R ≡ left_under b.heading file o)
unfolding run
opened_ok file F at b B R r (Ok h) f a e k v w =
    let same : run F at B ≡ run file (past 0 (cut_at file 0)) (no_records h) =
    ap (λ x. run x at B) f ∙ ap (λ x. run file x B) a ∙ ap (run file (past 0 (cut_at file 0))) k in
    (v ∙ ap answer same, w ∙ ap (λ x. records_or_none x.heading (run F at B)) k ∙ ap (records_or_none h) same)
opened_ok file F at b B R r (Err g) f a e k v w = let z : ◌≡◌ {A = ℕ} 0 1 = cc in absurd (omega arith)

pub load_ok : (file F : List ℕ) (at : ℕ) (b B R : Records) (r : Result (Unit {0}) Fault)
    → F ≡ file → at ≡ past 0 (cut_at file 0) → Ok tt ≡ answer (opening file) → B ≡ opened b (opening file)
    → r ≡ answer (records_from (suc (length F)) F at B) → R ≡ records_or_none B.heading (records_from (suc (length F)) F at B)
    → (r ≡ answer (file_records file)) × (R ≡ load_leaves b file)
unfolding run
load_ok file F at b B R r f a e k v w = opened_ok file F at b B R r (opening file) f a e k v w

opened_err : (file : List ℕ) (old : Heading) (f : Fault) (o : Result Heading Fault) → Err f ≡ answer o
    → (◌≡◌ {A = Result (Unit {0}) Fault} (Err f) (answer (and_then o (records_under file)))) × (no_records old ≡ left_under old file o)
opened_err file old f (Ok h) e = let z : ◌≡◌ {A = ℕ} 0 1 = cc in absurd (omega arith)
opened_err file old f (Err g) e = (e, refl)

pub load_err : (file : List ℕ) (b : Records) (f : Fault) → Err f ≡ answer (opening file)
    → (◌≡◌ {A = Result (Unit {0}) Fault} (Err f) (answer (file_records file))) × (no_records b.heading ≡ load_leaves b file)
load_err file b f e = opened_err file b.heading f (opening file) e
