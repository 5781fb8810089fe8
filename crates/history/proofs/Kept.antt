-- What a history keeps from call to call: the laws, and what the calls to come need.
use Rattle.std.proofs.Common.{◌≡◌, ℕ, zero, suc, ◌/◌, ◌%◌, ◌<◌, ◌≤◌, Bool, true, false, cond, eqb, ltb, List, [], ◌∷◌, length, get_or, replicate, ℤ, pos, nat_abs, Some, None, Option, sym, refl, ap, ◌∙◌, subst, arith}
use Rattle.std.proofs.lemmas.Bool.{and_from, cond-true, le-leb, lt-ltb}
use Rattle.faults.specs.Places.{at, fault_of}
use Rattle.faults.specs.declared.fault.Fault.{Fault}
use Rattle.faults.specs.declared.fault.Place.{Place}
use Rattle.faults.specs.declared.refusal.Refusal.TheVariants.{AboveHeading, OutOfRange}
use Rattle.dayfile.specs.Records.{Records}
use Rattle.amounts.specs.Amounts.{Scope, first_lacking, lacking}
use Rattle.book.specs.Books.{counts_of}
use Rattle.closing.specs.Prices.{first_unpriced}
use Rattle.book.specs.Soundness.{records_of_day, sound_records}
use Rattle.book.proofs.Keeps.{sound_is_of_its_day}
use Rattle.bounds.proofs.Facts.{sound_facts}
use Rattle.codes.specs.Cells.{cell, cell_at, cell_count}
use Rattle.codes.specs.Codes.{code_at}
use Rattle.codes.specs.Parties.{party_count, party_numbers}
use Rattle.codes.specs.declared.code.Code.{Code}
use Rattle.codes.specs.declared.table.Table.{Table}
use Rattle.codes.specs.declared.table.TableCell.{TableCell}
use Rattle.codes.proofs.Laws.{places_tell_cells}
use Rattle.ledger.specs.Laws.{balance}
use Rattle.ledger.specs.Notes.{all_within, amount_limit, sound_notes, within, within_limit}
use Rattle.settlement.specs.Days.{Holds, day_cell, lacking_fault, no_purchases, or_unpriced, settle_refusal, sheet_refusal}
use Rattle.settlement.specs.Sheets.{sheet}
use Rattle.settlement_laws.proofs.Balance.{cells_are_small, days_balance, parts_are_near, shares_are_whole, sheets_balance}
use Rattle.codes.specs.Sums.{sum_over, total}
use Rattle.amounts.specs.Amounts.{accounts}
use Rattle.sharing.specs.Fair.{Fair}
use Rattle.day.specs.Calls.{Parts}
use Rattle.day.specs.Memory.{Memory, sound_memory}
use Rattle.day.specs.Tables.{table_of}
use Rattle.history.specs.Events.{Settlement, Summary, all_notes, none_yet, settled_by}
use Rattle.history.specs.Laws.{IsSheet, Laws, SheetsAreAsDefined}
use Rattle.history.specs.States.{has_table, issues_made, numbers_of}
use Rattle.history.specs.declared.states.Day.{Day}
use Rattle.history.proofs.Outcomes.{nothing_against, some_not_none, went_well}
use Rattle.history.proofs.Tables.{day_nobody, sheet_nobody, table_holds, table_long}

-- a settlement that was accepted: a fair rule, sound records, and nobody lacking for an amount to share
pub record Accepted (parts : Parts) (r : Records) : Type 0 where
  pub fair : Fair parts
  pub sound : sound_records r ≡ true
  pub borne : first_lacking r ≡ None

abbrev pub MadeOf : Settlement → Type 0
MadeOf none_yet = Unit {0}
MadeOf (settled_by parts r) = Accepted parts r

-- the table is the one of the settlement
abbrev pub Fills : Settlement → Table → Type 0
Fills none_yet t = ⊥
Fills (settled_by parts r) t = t ≡ table_of (day_cell parts r)

pub record Kept (s : Summary) (day : Day) (m : Memory) : Type 0 where
  pub laws : Laws s day m
  pub sound : sound_records m.records ≡ true
  pub heading : (numbers_of day).heading ≡ m.records.heading
  pub counts : (numbers_of day).counts ≡ counts_of m.records
  pub limited : within_limit m.table ≡ true
  pub notes : sound_notes m.ledger (numbers_of day).notes (issues_made day) ≡ true
  pub balanced : balance (all_notes s) ≡ pos 0
  pub settlement : MadeOf s.settlement
  pub last_issue : MadeOf s.last_issue
  pub table : has_table day ≡ true → Fills s.settlement m.table

pub memory_sound : {s : Summary} {day : Day} {m : Memory} → Kept s day m → sound_memory (numbers_of day) (issues_made day) m ≡ true
memory_sound {s} {day} {m} k =
    let book : records_of_day (numbers_of day).heading (numbers_of day).counts m.records ≡ true =
    ap (λ h. records_of_day h (numbers_of day).counts m.records) k.heading
    ∙ ap (λ c. records_of_day m.records.heading c m.records) k.counts
    ∙ sound_is_of_its_day m.records ∙ k.sound in
    and_from (records_of_day (numbers_of day).heading (numbers_of day).counts m.records) _ book
    (and_from (within_limit m.table) _ k.limited k.notes)

-- who lacks nothing

lacks_none : (o : Option Scope) → lacking_fault o ≡ None → o ≡ None
lacks_none None e = refl
lacks_none (Some h) e = some_not_none e

pub settled_borne : (r : Records) → settle_refusal r ≡ None → first_lacking r ≡ None
settled_borne r e = go (first_unpriced r) refl
  where
    go : (o : Option Place) → first_unpriced r ≡ o → first_lacking r ≡ None
    go None p = lacks_none (first_lacking r) (rw p at e)
    go (Some place) p = some_not_none (rw p at e)

hour_borne : (b : Bool) (hour : Scope) → cond b (Some (no_purchases hour)) None ≡ None → b ≡ false
hour_borne true hour e = some_not_none e
hour_borne false hour e = refl

priced_borne : (r : Records) (hour : ℕ) → or_unpriced r (cond (lacking r hour) (Some (no_purchases hour)) None) ≡ None → lacking r hour ≡ false
priced_borne r hour e = go (first_unpriced r) refl
  where
    go : (o : Option Place) → first_unpriced r ≡ o → lacking r hour ≡ false
    go None p = hour_borne (lacking r hour) hour (rw p at e)
    go (Some place) p = some_not_none (rw p at e)

first_refusal : (b : Bool) (f : Fault) (o : Option Fault) → cond b (Some f) o ≡ None → o ≡ None
first_refusal true f o e = some_not_none e
first_refusal false f o e = e

pub sheet_borne : (r : Records) (hour : ℕ) → sheet_refusal r hour ≡ None → lacking r hour ≡ false
sheet_borne r hour e =
    priced_borne r hour
    (first_refusal (ltb r.heading.hours hour) (fault_of AboveHeading (at 0 0 hour)) _
    (first_refusal (eqb hour 0) (fault_of OutOfRange (at 0 0 hour)) _ e))

-- cells within the limit

each_within : (zs : List ℤ) → ((i : ℕ) → i < length zs → within (get_or zs i (pos 0)) ≡ true) → all_within zs ≡ true
each_within [] h = refl
each_within (z ∷ zs) h = and_from (within z) (all_within zs) (h 0 (omega arith)) (each_within zs (λ i k. h (suc i) (omega arith)))

pub cells_within : (t : Table) → length t.cells ≡ cell_count → ((code : Code) (party : ℕ) → nat_abs (cell t code party) ≤ amount_limit / 2) → within_limit t ≡ true
unfolding within_limit
cells_within t n h =
    each_within t.cells
    (λ i k.
    let c : TableCell = record { code = code_at (i / party_count); party = get_or party_numbers (i % party_count) 0; amount = get_or t.cells i (pos 0) } in
    let found : cell_at t i ≡ Some c = cond-true (ltb i cell_count) (Some c) None (lt-ltb i cell_count (omega arith)) in
    let told = places_tell_cells t i c found in
    le-leb (nat_abs (get_or t.cells i (pos 0))) amount_limit (omega (arith, ap nat_abs told, h c.code c.party)))

zeros_within : (n : ℕ) → all_within (replicate n (pos 0)) ≡ true
zeros_within zero = refl
zeros_within (suc n) = and_from (within (pos 0)) _ refl (zeros_within n)

pub empty_within : (t : Table) → t.cells ≡ replicate cell_count (pos 0) → within_limit t ≡ true
unfolding within_limit
empty_within t e = ap all_within e ∙ zeros_within cell_count

-- the cells of a settled day
module _ (parts : Parts) (r : Records) (a : Accepted parts r) where
  few : r.heading.accounts ≤ 32
  few = (sound_facts r a.sound).few

  pub day_holds : Holds (table_of (day_cell parts r)) (day_cell parts r)
  day_holds = table_holds (day_cell parts r) (day_nobody parts r few)

  pub day_small : (code : Code) (party : ℕ) → nat_abs (cell (table_of (day_cell parts r)) code party) ≤ amount_limit / 2
  day_small code party = omega (arith, ap nat_abs (day_holds code party), cells_are_small parts a.fair r a.sound a.borne code party)

  pub day_within : within_limit (table_of (day_cell parts r)) ≡ true
  day_within = cells_within (table_of (day_cell parts r)) (table_long (day_cell parts r)) day_small

  pub day_even : total (cell (table_of (day_cell parts r))) ≡ pos 0
  day_even = ap total (λ i code party. day_holds code party i) ∙ days_balance parts a.fair r a.sound a.borne

-- the sheet of an hour
pub sheet_is : (r : Records) (hour : ℕ) (parts : Parts) → Fair parts → sound_records r ≡ true → lacking r hour ≡ false → IsSheet r hour parts (table_of (sheet parts r hour))
sheet_is r hour parts fair sound borne =
    let t = table_of (sheet parts r hour) in
    let holds = table_holds (sheet parts r hour) (sheet_nobody parts r (sound_facts r sound).few hour) in
    let same : cell t ≡ sheet parts r hour = λ i code party. holds code party i in
    record {
      defined = holds;
      balanced = ap total same ∙ sheets_balance parts fair r hour sound borne;
      whole = λ code shared. ap (λ (f : Code → ℕ → ℤ). sum_over (f code) (accounts r)) same ∙ shares_are_whole parts fair r hour sound borne code shared;
      near = λ code weighed account low high. rw (holds code account) (parts_are_near parts fair r hour sound borne code weighed account low high);
    }

pub sheets_defined : (s : Summary) (day : Day) (m : Memory) → m.records ≡ s.records → sound_records m.records ≡ true → SheetsAreAsDefined s day m
sheets_defined s day m same sound tabled hour parts fair page filled given e =
    let went = went_well _ _ _ _ _ _ _ e in
    let clear = nothing_against _ _ _ went.0 in
    let is = sheet_is m.records hour parts fair sound (sheet_borne m.records hour clear.1) in
    subst (λ x. IsSheet x hour parts filled) same (subst (λ x. IsSheet m.records hour parts x) (sym went.2) is)
