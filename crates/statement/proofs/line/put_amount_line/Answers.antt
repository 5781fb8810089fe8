use Rattle.std.proofs.Common.{◌+◌, [], ◌∷◌, ◌++◌, refl, ap, ◌∙◌, subst, w64}
use Rattle.std.proofs.lemmas.Int.{to_z-of_z}
use Rattle.text.specs.Lines.{word}
use Rattle.text.specs.Written.{Puts}
use Rattle.text.proofs.Writing.{room_after, room_front, then}
use Rattle.statement.specs.Sides.{side_and_magnitude, side_letter}
use Rattle.statement.proofs.Stated.{line_parts, line_room}
use Rattle.statement.proofs.line.put_amount_line.Goals as goal

pub put-requires : goal.put-requires
put-requires c =
    let row = c.row-row.result in
    let a = c.side_and_magnitude-side.result in
    let s = c.side_and_magnitude-side.ensures ∙ ap side_and_magnitude (to_z-of_z w64 c.args.amount c.ranges.amount) in
    room_front c.args.out.now (row.letter ∷ (48 + row.digit) ∷ []) (word c.args.party ++ ((32 ∷ side_letter a.0 ∷ []) ++ (word a.1 ++ (10 ∷ []))))
    (line_room c.args.out.now c.args.code c.args.party c.args.amount row c.args.party (side_letter a.0) a c.row-row.ensures refl s refl c.requires)

pub put_word-requires : goal.put_word-requires
put_word-requires c =
    let row = c.row-row.result in
    let a = c.side_and_magnitude-side.result in
    let s = c.side_and_magnitude-side.ensures ∙ ap side_and_magnitude (to_z-of_z w64 c.args.amount c.ranges.amount) in
    let rest = (32 ∷ side_letter a.0 ∷ []) ++ (word a.1 ++ (10 ∷ [])) in
    room_front c.put.new.self (word c.from.result) rest
    (room_after (row.letter ∷ (48 + row.digit) ∷ []) (word c.from.result ++ rest) c.put.ensures
    (line_room c.args.out.now c.args.code c.args.party c.args.amount row c.from.result (side_letter a.0) a c.row-row.ensures c.from.ensures s refl c.requires))

pub put-requires-2 : goal.put-requires-2
put-requires-2 c =
    let row = c.row-row.result in
    let a = c.side_and_magnitude-side.result in
    let s = c.side_and_magnitude-side.ensures ∙ ap side_and_magnitude (to_z-of_z w64 c.args.amount c.ranges.amount) in
    let side = 32 ∷ c.letter.result ∷ [] in
    room_front c.put_word.new.self side (word a.1 ++ (10 ∷ []))
    (room_after (word c.from.result) (side ++ (word a.1 ++ (10 ∷ []))) c.put_word.ensures
    (room_after (row.letter ∷ (48 + row.digit) ∷ []) (word c.from.result ++ (side ++ (word a.1 ++ (10 ∷ [])))) c.put.ensures
    (line_room c.args.out.now c.args.code c.args.party c.args.amount row c.from.result c.letter.result a c.row-row.ensures c.from.ensures s c.letter.ensures c.requires)))

pub put_word-requires-2 : goal.put_word-requires-2
put_word-requires-2 c =
    let row = c.row-row.result in
    let a = c.side_and_magnitude-side.result in
    let s = c.side_and_magnitude-side.ensures ∙ ap side_and_magnitude (to_z-of_z w64 c.args.amount c.ranges.amount) in
    let side = 32 ∷ c.letter.result ∷ [] in
    room_front c.put-2.new.self (word a.1) (10 ∷ [])
    (room_after side (word a.1 ++ (10 ∷ [])) c.put-2.ensures
    (room_after (word c.from.result) (side ++ (word a.1 ++ (10 ∷ []))) c.put_word.ensures
    (room_after (row.letter ∷ (48 + row.digit) ∷ []) (word c.from.result ++ (side ++ (word a.1 ++ (10 ∷ [])))) c.put.ensures
    (line_room c.args.out.now c.args.code c.args.party c.args.amount row c.from.result c.letter.result a c.row-row.ensures c.from.ensures s c.letter.ensures c.requires))))

pub put-requires-3 : goal.put-requires-3
put-requires-3 c =
    let row = c.row-row.result in
    let a = c.side_and_magnitude-side.result in
    let s = c.side_and_magnitude-side.ensures ∙ ap side_and_magnitude (to_z-of_z w64 c.args.amount c.ranges.amount) in
    let side = 32 ∷ c.letter.result ∷ [] in
    room_after (word a.1) (10 ∷ []) c.put_word-2.ensures
    (room_after side (word a.1 ++ (10 ∷ [])) c.put-2.ensures
    (room_after (word c.from.result) (side ++ (word a.1 ++ (10 ∷ []))) c.put_word.ensures
    (room_after (row.letter ∷ (48 + row.digit) ∷ []) (word c.from.result ++ (side ++ (word a.1 ++ (10 ∷ [])))) c.put.ensures
    (line_room c.args.out.now c.args.code c.args.party c.args.amount row c.from.result c.letter.result a c.row-row.ensures c.from.ensures s c.letter.ensures c.requires))))

pub returns : goal.returns
returns c =
    let row = c.row-row.result in
    let a = c.side_and_magnitude-side.result in
    let side = 32 ∷ c.letter.result ∷ [] in
    let s = c.side_and_magnitude-side.ensures ∙ ap side_and_magnitude (to_z-of_z w64 c.args.amount c.ranges.amount) in
    subst (λ z. Puts c.args.out.now c.put-3.new.self z)
    (line_parts c.args.code c.args.party c.args.amount row c.from.result c.letter.result a c.row-row.ensures c.from.ensures s c.letter.ensures)
    (then (row.letter ∷ (48 + row.digit) ∷ []) (word c.from.result ++ (side ++ (word a.1 ++ (10 ∷ [])))) c.put.ensures
    (then (word c.from.result) (side ++ (word a.1 ++ (10 ∷ []))) c.put_word.ensures
    (then side (word a.1 ++ (10 ∷ [])) c.put-2.ensures (then (word a.1) (10 ∷ []) c.put_word-2.ensures c.put-3.ensures))))
