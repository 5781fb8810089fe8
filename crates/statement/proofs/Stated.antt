-- The notes of an issue among those of a ledger.
use Rattle.std.proofs.Common.{Bor, map, subst, is_ok, is_some, Some, None, Option, ℤ, ◌≡◌, ℕ, ◌+◌, ◌≤◌, Bool, true, false, cond, eqb, List, [], ◌∷◌, ◌++◌, length, take, sym, refl, ap, ◌∙◌, arith, length-append}
use Rattle.std.proofs.lemmas.List.{flat_map_more}
use Rattle.std.proofs.lemmas.List.Folds.{flat_map-map}
use Rattle.std.specs.Option.{ok_or}
use Rattle.std.specs.List.{flat_map}
use Rattle.text.specs.Written.{HasRoom}
use Rattle.text.specs.declared.write.Writer.{Writer}
use Rattle.text.specs.Lines.{line, word}
use Rattle.codes.specs.Codes.{row_of}
use Rattle.codes.specs.declared.code.Code.{Code}
use Rattle.codes.specs.declared.code.CodeRow.{CodeRow}
use Rattle.statement.specs.Sides.{side_and_magnitude, side_letter}
use Rattle.statement.specs.declared.side.Side.{Side}
use Rattle.ledger.specs.declared.note.Note.{Note}
use Rattle.statement.specs.Lines.{amount_line, note_line}
use Rattle.dayfile.specs.declared.heading.Heading.{Heading}
use Rattle.statement.specs.Statements.{day_name, first_line, last_line, of_issue, statement_text}

pub of_issue_front : (number : ℕ) (ns : List Note) → length (of_issue number ns) ≤ length ns
of_issue_front number [] = omega arith
of_issue_front number (n ∷ ns) = step (eqb n.issue number) (of_issue_front number ns)
  where
    step : (b : Bool) → length (of_issue number ns) ≤ length ns → length (cond b (n ∷ of_issue number ns) (of_issue number ns)) ≤ length (n ∷ ns)
    step true ih = omega arith
    step false ih = omega arith

pub length_text : (h : Heading) (ns : List Note) (number : ℕ)
    → length (statement_text h ns number) ≡ length (first_line h number) + (length (flat_map note_line (of_issue number ns)) + length (last_line (length (of_issue number ns))))
unfolding statement_text
length_text h ns number = simp length-append

pub first_from : (h : Heading) (number : ℕ) (name : List ℕ) (a b : ℕ) → name ≡ day_name h → a ≡ h.hours → b ≡ number → line name (a ∷ b ∷ []) ≡ first_line h number
unfolding first_line
first_from h number name a b e f g = λ i. line (e i) (f i ∷ g i ∷ [])

-- the line of an amount, by the pieces of the code
pub line_parts : (code : Code) (party : ℕ) (amount : ℤ) (row : CodeRow) (p letter : ℕ) (a : Side × ℕ) → row ≡ row_of code → p ≡ party → a ≡ side_and_magnitude amount → letter ≡ side_letter a.0
    → (row.letter ∷ (48 + row.digit) ∷ []) ++ (word p ++ ((32 ∷ letter ∷ []) ++ (word a.1 ++ (10 ∷ [])))) ≡ amount_line code party amount
unfolding amount_line
line_parts code party amount row p letter a e f g h =
    ap (λ l. (row.letter ∷ (48 + row.digit) ∷ []) ++ (word p ++ ((32 ∷ l ∷ []) ++ (word a.1 ++ (10 ∷ []))))) h
    ∙ (λ i. ((e i).letter ∷ (48 + (e i).digit) ∷ []) ++ (word (f i) ++ ((32 ∷ side_letter (g i).0 ∷ []) ++ (word (g i).1 ++ (10 ∷ [])))))

pub line_room : (out : Writer ℕ) (code : Code) (party : ℕ) (amount : ℤ) (row : CodeRow) (p letter : ℕ) (a : Side × ℕ) → row ≡ row_of code → p ≡ party → a ≡ side_and_magnitude amount → letter ≡ side_letter a.0
    → HasRoom out (amount_line code party amount) → HasRoom out ((row.letter ∷ (48 + row.digit) ∷ []) ++ (word p ++ ((32 ∷ letter ∷ []) ++ (word a.1 ++ (10 ∷ [])))))
line_room out code party amount row p letter a e f g h room = subst (λ z. HasRoom out z) (sym (line_parts code party amount row p letter a e f g h)) room

-- the lines of the notes so far, the front of the issue's notes
pub so_far : (mine : List Note) (yielded : List (Bor Note)) → map (λ n. n.now) yielded ≡ take (length yielded) mine → flat_map (λ n. note_line n.now) yielded ≡ flat_map note_line (take (length yielded) mine)
so_far mine yielded e = sym (flat_map-map note_line (λ (n : Bor Note). n.now) yielded) ∙ ap (flat_map note_line) e

pub all_lines : (mine : List Note) (yielded : List (Bor Note)) → map (λ n. n.now) yielded ≡ mine → flat_map (λ n. note_line n.now) yielded ≡ flat_map note_line mine
all_lines mine yielded e = sym (flat_map-map note_line (λ (n : Bor Note). n.now) yielded) ∙ ap (flat_map note_line) e

pub one_more : (yielded : List (Bor Note)) (n : Bor Note) → flat_map (λ n. note_line n.now) (yielded ++ n ∷ []) ≡ flat_map (λ n. note_line n.now) yielded ++ note_line n.now
one_more yielded n = sym (flat_map_more (λ (n : Bor Note). note_line n.now) [] yielded n)

pub kept : {X E : Type 0} (o : Option X) (e : E) → is_ok (ok_or o e) ≡ is_some o
kept None e = refl
kept (Some x) e = refl
