-- The laws of an issue.
use Rattle.std.proofs.Common.{◌≡◌, ℕ, zero, suc, ◌+◌, ◌<◌, ◌≤◌, true, leb, List, [], ◌∷◌, ◌++◌, length, get_or, take, drop, ℤ, pos, negsuc, ◌+ℤ◌, ◌-ℤ◌, nat_abs, Some, None, Option, sym, refl, ap, ◌∙◌, append_assoc, arith, length-append, length-take}
use Rattle.std.proofs.lemmas.List.{take_at}
use Rattle.std.proofs.lemmas.Int.{ints}
use Rattle.std.proofs.lemmas.Bool.{and_from, and_parts, cond-true, le-leb}
use Rattle.std.specs.List.{flat_map}
use Rattle.codes.specs.Cells.{amount_at, cell}
use Rattle.codes.specs.Codes.{all_codes}
use Rattle.codes.specs.Parties.{party_numbers, party_place}
use Rattle.codes.specs.Sums.{total}
use Rattle.codes.specs.declared.code.Code.{Code}
use Rattle.text.specs.Written.{written}
use Rattle.ledger.specs.Issues.{counted, earlier, issue_leaves, new_notes, note_for, noted, notes_of, row_notes}
use Rattle.ledger.specs.Laws.{HalvesDifferWithinTheLimit, IssuesAppend, IssuesBalance, IssuesBearTheirNumber, IssuesKeepNotesSound, IssuesReachTheCells}
use Rattle.ledger.specs.Notes.{no_note, sound_list, sound_notes}
use Rattle.ledger.specs.declared.note.Note.{Note}
use Rattle.ledger.proofs.Counting.{sum-++}
use Rattle.ledger.proofs.Renewed.{renewed}
use Rattle.ledger.proofs.Totals.{balance_new, noted_new, noted_nobody, noted_unknown, total_less, total_noted}

leaves : (led new : List Note) (count : ℕ) → count + length new ≤ length led → issue_leaves led count new ≡ (take count led ++ new) ++ drop (count + length new) led
leaves led new count h =
    cond-true (leb (count + length new) (length led)) (written led count new) led (le-leb (count + length new) (length led) h)
    ∙ sym (append_assoc (take count led) new (drop (count + length new) led))

pub appended : IssuesAppend
appended led new count h =
    let long : length (take count led ++ new) ≡ count + length new = length-append (take count led) new ∙ ap (λ n. n + length new) (length-take count led ∙ omega arith) in
    ap (take (count + length new)) (leaves led new count h) ∙ take_at (take count led ++ new) (drop (count + length new) led) (count + length new) long

sound_parts : (led : List Note) (count k : ℕ) → sound_notes led count k ≡ true → (leb count (length led) ≡ true) × (sound_list k (take count led) ≡ true)
sound_parts led count k e = and_parts (leb count (length led)) (sound_list k (take count led)) e

back : (a b : ℤ) → a +ℤ (b -ℤ a) ≡ b
back a b = omega (arith, ints)

pub reached : IssuesReachTheCells
reached led count k t e code party =
    sum-++ (counted code party) (take count led) (new_notes led count k t) ∙ by (party_place party) refl
  where
    by : (o : Option ℕ) → party_place party ≡ o → noted (take count led) code party +ℤ noted (new_notes led count k t) code party ≡ cell t code party
    by None h =
        (λ i. noted_unknown k no_note (take count led) code party (sound_parts led count k e).1 h i
        +ℤ noted_nobody k (λ code party. cell t code party -ℤ earlier led count code party) code party h i)
        ∙ sym (ap (amount_at t.cells code) h)
    by (Some i) h =
        ap (λ z. noted (take count led) code party +ℤ z) (noted_new k (λ code party. cell t code party -ℤ earlier led count code party) code party i h)
        ∙ back (noted (take count led) code party) (cell t code party)

none_less : (a b : ℤ) → a ≡ pos 0 → b ≡ pos 0 → a -ℤ b ≡ pos 0
none_less a b e f = omega (arith, ints)

pub balanced : IssuesBalance
balanced led count k t e cells notes =
    balance_new k (λ code party. cell t code party -ℤ earlier led count code party) ∙ total_less (cell t) (earlier led count)
    ∙ none_less (total (cell t)) (total (earlier led count)) cells (total_noted k no_note (take count led) (sound_parts led count k e).1 ∙ notes)

-- every note of a list bears a number
Bear : ℕ → List Note → Type 0
Bear number [] = Unit {0}
Bear number (n ∷ ns) = (n.issue ≡ number) × Bear number ns

bear-++ : (number : ℕ) (xs ys : List Note) → Bear number xs → Bear number ys → Bear number (xs ++ ys)
unfolding Bear
bear-++ number [] ys p q = q
bear-++ number (x ∷ xs) ys p q = (p.0, bear-++ number xs ys p.1 q)

bear_joined : {X : Type 0} (number : ℕ) (f : X → List Note) (xs : List X) → ((x : X) → Bear number (f x)) → Bear number (flat_map f xs)
unfolding Bear
bear_joined number f [] h = tt
bear_joined number f (x ∷ xs) h = bear-++ number (f x) (flat_map f xs) (h x) (bear_joined number f xs h)

bear_for : (number : ℕ) (c : Code) (p : ℕ) (z : ℤ) → Bear number (note_for number c p z)
unfolding Bear
bear_for number c p (pos zero) = tt
bear_for number c p (pos (suc n)) = (refl, tt)
bear_for number c p (negsuc n) = (refl, tt)

bear_row : (number : ℕ) (f : Code → ℕ → ℤ) (ps : List ℕ) (c : Code) → Bear number (row_notes number f ps c)
unfolding row_notes
bear_row number f ps c = bear_joined number (λ p. note_for number c p (f c p)) ps (λ p. bear_for number c p (f c p))

bear_new : (number : ℕ) (f : Code → ℕ → ℤ) → Bear number (notes_of number f)
unfolding notes_of
bear_new number f = bear_joined number (row_notes number f party_numbers) all_codes (λ c. bear_row number f party_numbers c)

bear_at : (number : ℕ) (ns : List Note) (i : ℕ) → Bear number ns → i < length ns → (get_or ns i no_note).issue ≡ number
unfolding Bear
bear_at number [] i b h = absurd (omega arith)
bear_at number (n ∷ ns) zero b h = b.0
bear_at number (n ∷ ns) (suc i) b h = bear_at number ns i b.1 (omega arith)

pub borne : IssuesBearTheirNumber
borne led count number t i h = bear_at number (new_notes led count number t) i (bear_new number (λ code party. cell t code party -ℤ earlier led count code party)) h

pub kept_sound : IssuesKeepNotesSound
kept_sound led count k t e small room =
    let new = new_notes led count k t in
    let long : count + length new ≤ length (issue_leaves led count new) = omega (arith, ap length (leaves led new count room), length-append (take count led ++ new) (drop (count + length new) led), length-append (take count led) new, length-take count led) in
    and_from (leb (count + length new) (length (issue_leaves led count new))) (sound_list (k + 1) (take (count + length new) (issue_leaves led count new)))
    (le-leb (count + length new) (length (issue_leaves led count new)) long)
    (ap (sound_list (k + 1)) (appended led new count room) ∙ renewed k (λ code party. cell t code party -ℤ earlier led count code party) small (take count led) (sound_parts led count k e).1)

half_less : (a b : ℤ) → nat_abs a ≤ 50000000000000000 → nat_abs b ≤ 50000000000000000 → nat_abs (a -ℤ b) ≤ 100000000000000000
half_less a b h g = omega (arith, ints)

pub halves : HalvesDifferWithinTheLimit
halves led count t h g code party = half_less (cell t code party) (earlier led count code party) (h code party) (g code party)
