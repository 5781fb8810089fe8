-- Notes added.
use Rattle.std.proofs.Common.{not, eqb, cond, nat_abs, count_by, sum_by, rules, tests, ◌≡◌, ℕ, zero, suc, ◌+◌, ◌<◌, true, false, leb, List, length, take, ℤ, pos, negsuc, Ok, Err, sym, refl, ap, ◌∙◌}
use Rattle.std.proofs.lemmas.List.Concat.{length-flat_map}
use Rattle.std.proofs.lemmas.Bool.{cond-false, cond-true, le-leb, lt-leb}
use Rattle.std.specs.List.{flat_map}
use Rattle.faults.specs.Places.{plain}
use Rattle.faults.specs.declared.refusal.Refusal.TheVariants.{LedgerFull}
use Rattle.codes.specs.Cells.{cell}
use Rattle.codes.specs.Parties.{party_numbers}
use Rattle.codes.specs.declared.table.Table.{Table}
use Rattle.codes.proofs.Codes.{code_table}
use Rattle.codes.specs.declared.code.Code.{Code}
use Rattle.codes.specs.declared.code.Basis.TheVariants.{Own}
use Rattle.codes.specs.declared.code.Code.TheVariants.{A1}
use Rattle.codes.specs.declared.code.CodeRow.{CodeRow}
use Rattle.codes.specs.declared.code.PartyKind.TheVariants.{Account}
use Rattle.text.specs.Written.{Wrote, written}
use Rattle.ledger.specs.Issues.{issue_answer, issue_leaves, new_notes, note_for, noted, notes_of, row_notes}
use Rattle.ledger.specs.Steps.{TakenOff, rows_notes, takes_note}
use Rattle.ledger.specs.declared.note.Note.{Note}

-- what stands where a list of rows has none
abbrev pub no_row : CodeRow
no_row = record { code = A1; letter = 0; digit = 0; party = Account; basis = Own }

-- the table of codes has the rows of all codes
pub rows_are : (number : ℕ) (f : Code → ℕ → ℤ) → flat_map (rows_notes number f) code_table ≡ notes_of number f
unfolding notes_of
rows_are number f = refl

-- a cell takes one note or none
length_note : (number : ℕ) (code : Code) (party : ℕ) (z : ℤ) → length (note_for number code party z) ≡ cond (not (eqb (nat_abs z) 0)) 1 0
length_note number code party (pos zero) = refl
length_note number code party (pos (suc n)) = sym (cond-true (not (eqb (suc n) 0)) 1 0 (search (tests, rules)))
length_note number code party (negsuc n) = sym (cond-true (not (eqb (suc n) 0)) 1 0 (search (tests, rules)))

length_row : (number : ℕ) (f : Code → ℕ → ℤ) (code : Code) → length (row_notes number f party_numbers code) ≡ count_by (takes_note f code) party_numbers
unfolding row_notes
length_row number f code =
    length-flat_map (λ party. note_for number code party (f code party)) party_numbers ∙ ap (λ g. sum_by g party_numbers) (λ i party. length_note number code party (f code party) i)

-- as many notes as cells that take one
pub length_notes : (number : ℕ) (f : Code → ℕ → ℤ) → sum_by (λ row. count_by (takes_note f row.code) party_numbers) code_table ≡ length (notes_of number f)
length_notes number f =
    sym (ap length (sym (rows_are number f)) ∙ length-flat_map (rows_notes number f) code_table ∙ ap (λ g. sum_by g code_table) (λ i row. length_row number f row.code i))

-- what is over, by code and party
pub rest_notes : (led : List Note) (count number : ℕ) (t r : Table) → TakenOff t r (noted (take count led)) → notes_of number (cell r) ≡ new_notes led count number t
rest_notes led count number t r taken = ap (notes_of number) (λ i code party. taken.each code party i)

pub new_fit : (led led' new : List Note) (count end : ℕ) → Wrote led count new led' end → (Ok (length new) ≡ issue_answer led count new) × (led' ≡ issue_leaves led count new)
new_fit led led' new count end w =
    let yes : leb (count + length new) (length led) ≡ true = le-leb (count + length new) (length led) w.room in (
      sym (cond-true (leb (count + length new) (length led)) (Ok (length new)) (Err (plain LedgerFull)) yes),
      w.is ∙ sym (cond-true (leb (count + length new) (length led)) (written led count new) led yes),
    )

pub new_full : (led new : List Note) (count : ℕ) → length led < count + length new → (Err (plain LedgerFull) ≡ issue_answer led count new) × (led ≡ issue_leaves led count new)
new_full led new count h =
    let nay : leb (count + length new) (length led) ≡ false = lt-leb (count + length new) (length led) h in (
      sym (cond-false (leb (count + length new) (length led)) (Ok (length new)) (Err (plain LedgerFull)) nay),
      sym (cond-false (leb (count + length new) (length led)) (written led count new) led nay),
    )
