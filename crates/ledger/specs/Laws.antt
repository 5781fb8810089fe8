-- What holds of every issue of a table on sound notes.
use Rattle.std.specs.Prelude.{◌≡◌, ℕ, ◌+◌, ◌/◌, ◌<◌, ◌≤◌, true, List, ◌++◌, length, take, ℤ, pos, ◌-ℤ◌, slice_index_or, unsigned_abs}
use Rattle.codes.specs.Cells.{cell}
use Rattle.codes.specs.Sums.{sum_over, total}
use Rattle.codes.specs.declared.code.Code.{Code}
use Rattle.codes.specs.declared.table.Table.{Table}
use Rattle.ledger.specs.Issues.{earlier, issue_leaves, new_notes, noted}
use Rattle.ledger.specs.Notes.{amount_limit, no_note, sound_notes}
use Rattle.ledger.specs.declared.note.Note.{Note}

-- what notes add up to over all codes and parties
abbrev pub balance : List Note → ℤ
balance notes = sum_over (λ n. n.amount) notes

-- an issue that is not refused leaves the earlier notes and the new ones at the front of the ledger
abbrev pub IssuesAppend : Type 0
IssuesAppend = (ledger new : List Note) (count : ℕ) → count + length new ≤ length ledger
    → take (count + length new) (issue_leaves ledger count new) ≡ take count ledger ++ new

-- then the notes of every code and party add up to the cell
abbrev pub IssuesReachTheCells : Type 0
IssuesReachTheCells = (ledger : List Note) (count issues : ℕ) (t : Table) → sound_notes ledger count issues ≡ true
    → (code : Code) (party : ℕ) → noted (take count ledger ++ new_notes ledger count issues t) code party ≡ cell t code party

-- if the cells and the earlier notes balance, so do the new notes
abbrev pub IssuesBalance : Type 0
IssuesBalance = (ledger : List Note) (count issues : ℕ) (t : Table) → sound_notes ledger count issues ≡ true
    → total (cell t) ≡ pos 0 → balance (take count ledger) ≡ pos 0 → balance (new_notes ledger count issues t) ≡ pos 0

-- each new note bears the number of the issue
abbrev pub IssuesBearTheirNumber : Type 0
IssuesBearTheirNumber = (ledger : List Note) (count number : ℕ) (t : Table) (i : ℕ) → i < length (new_notes ledger count number t)
    → (slice_index_or (new_notes ledger count number t) i no_note).issue ≡ number

-- the notes are sound again, of one issue more, if no cell differs from its earlier notes by more than the limit
abbrev pub IssuesKeepNotesSound : Type 0
IssuesKeepNotesSound = (ledger : List Note) (count issues : ℕ) (t : Table) → sound_notes ledger count issues ≡ true
    → ((code : Code) (party : ℕ) → unsigned_abs (cell t code party -ℤ earlier ledger count code party) ≤ amount_limit)
    → count + length (new_notes ledger count issues t) ≤ length ledger
    → sound_notes (issue_leaves ledger count (new_notes ledger count issues t)) (count + length (new_notes ledger count issues t)) (issues + 1) ≡ true

-- as none does where every cell, and every sum of earlier notes, is within half the limit
abbrev pub HalvesDifferWithinTheLimit : Type 0
HalvesDifferWithinTheLimit = (ledger : List Note) (count : ℕ) (t : Table)
    → ((code : Code) (party : ℕ) → unsigned_abs (cell t code party) ≤ amount_limit / 2)
    → ((code : Code) (party : ℕ) → unsigned_abs (earlier ledger count code party) ≤ amount_limit / 2)
    → (code : Code) (party : ℕ) → unsigned_abs (cell t code party -ℤ earlier ledger count code party) ≤ amount_limit
