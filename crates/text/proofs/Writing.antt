-- One piece of text written after another.
use Rattle.std.proofs.Common.{◌≡◌, ℕ, ◌+◌, ◌/◌, ◌%◌, ◌^◌, ◌<◌, ◌≤◌, List, [], ◌++◌, length, get_or, take, drop, decimal, sym, ap, ◌∙◌, append_assoc, arith, length-append, length-drop, length-take}
use Rattle.std.proofs.lemmas.Fmt.{decimal_step}
use Rattle.std.proofs.lemmas.List.{drop_at, drop-drop, flat_map_more, length_push, take_at, take_more}
use Rattle.std.proofs.lemmas.List.Folds.{length-flat_map-take}
use Rattle.std.specs.List.{flat_map}
use Rattle.text.specs.Lines.{line, words}
use Rattle.text.specs.declared.write.Writer.{Writer}
use Rattle.text.specs.Written.{HasRoom, Puts, Wrote, written}

length_front : {X : Type 0} (buffer : List X) (at : ℕ) → at ≤ length buffer → length (take at buffer) ≡ at
length_front buffer at h = rw (length-take at buffer) (omega arith)

length_written : {X : Type 0} (buffer : List X) (at : ℕ) (text : List X) → at + length text ≤ length buffer → length (written buffer at text) ≡ length buffer
length_written buffer at text h = simp (length-append, length-take, length-drop) (omega arith)

-- two pieces, one after the other, are one
written_written : {X : Type 0} (buffer : List X) (at : ℕ) (xs ys : List X) (m : ℕ) → m ≡ at + length xs → at + length xs ≤ length buffer → written (written buffer at xs) m ys ≡ written buffer at (xs ++ ys)
written_written {X} buffer at xs ys m e h =
    let P : List X = take at buffer ++ xs in
    let Q : List X = drop (at + length xs) buffer in
    let D : List X = drop (at + length (xs ++ ys)) buffer in
    let w : written buffer at xs ≡ P ++ Q = sym (append_assoc (take at buffer) xs Q) in
    let lp : length P ≡ m = length-append (take at buffer) xs ∙ ap (λ n. n + length xs) (length_front buffer at (omega arith)) ∙ sym e in
    let t : take m (written buffer at xs) ≡ P = ap (take m) w ∙ take_at P Q m lp in
    let d : drop (m + length ys) (written buffer at xs) ≡ D =
    ap (drop (m + length ys)) w ∙ sym (drop-drop (length ys) m (P ++ Q)) ∙ ap (drop (length ys)) (drop_at P Q m lp) ∙ drop-drop (length ys) (at + length xs) buffer
    ∙ ap (λ k. drop k buffer) (omega (arith, length-append xs ys)) in
    (λ i. t i ++ (ys ++ d i)) ∙ append_assoc (take at buffer) xs (ys ++ D) ∙ ap (λ z. take at buffer ++ z) (sym (append_assoc xs ys D))

pub after : {X : Type 0} {buffer buffer' buffer'' : List X} {at m n : ℕ} (xs ys : List X) → Wrote buffer at xs buffer' m → Wrote buffer' m ys buffer'' n → Wrote buffer at (xs ++ ys) buffer'' n
after {X} {buffer} {buffer'} {buffer''} {at} {m} {n} xs ys p q =
    let k : length buffer' ≡ length buffer = ap length p.is ∙ length_written buffer at xs p.room in
    record {
      is = q.is ∙ ap (λ b. written b m ys) p.is ∙ written_written buffer at xs ys m p.next p.room;
      next = omega (arith, length-append xs ys, p.next, q.next);
      room = omega (arith, length-append xs ys, p.next, q.room);
    }

-- the same of a writer's pieces
pub then : {X : Type 0} {a b c : Writer X} (xs ys : List X) → Puts a b xs → Puts b c ys → Puts a c (xs ++ ys)
then xs ys p q = record { same = q.same ∙ p.same; wrote = after xs ys p.wrote q.wrote }

-- which keep the memory's length
pub same_length : {X : Type 0} {a b : Writer X} {xs : List X} → Puts a b xs → length b.buffer.now ≡ length a.buffer.now
same_length {X} {a} {b} {xs} p = ap length p.wrote.is ∙ length_written a.buffer.now a.at xs p.wrote.room

pub room_after : {X : Type 0} {a b : Writer X} (xs ys : List X) → Puts a b xs → HasRoom a (xs ++ ys) → HasRoom b ys
room_after {X} {a} {b} xs ys p h = omega (arith, length-append xs ys, p.wrote.next, same_length p)

pub room_front : {X : Type 0} (a : Writer X) (xs ys : List X) → HasRoom a (xs ++ ys) → HasRoom a xs
room_front a xs ys h = omega (arith, length-append xs ys)

pub length_decimal_step : (n : ℕ) → 10 ≤ n → n < 2 ^ 64 → length (decimal n) ≡ length (decimal (n / 10)) + 1
length_decimal_step n p q = ap length (decimal_step n p q) ∙ length_push (decimal (n / 10)) (48 + n % 10)

-- a piece for each element: the pieces of one more element
pieces_more : {X Y : Type 0} (f : X → List Y) (xs : List X) (d : X) (i : ℕ) → i < length xs → flat_map f (take (i + 1) xs) ≡ flat_map f (take i xs) ++ f (get_or xs i d)
pieces_more f xs d i h = ap (flat_map f) (take_more xs i d h) ∙ sym (flat_map_more f [] (take i xs) (get_or xs i d))

-- a writer's pieces, one for each element: there is room for the next, and with it they are the pieces of one more
module _ {X Y : Type 0} (f : X → List Y) (xs : List X) (d : X) (i : ℕ) (h : i < length xs) {a b : Writer Y} (p : Puts a b (flat_map f (take i xs))) where
  pub room_for_piece : HasRoom a (flat_map f xs) → HasRoom b (f (get_or xs i d))
  room_for_piece room = omega (arith, length-flat_map-take f xs i d h, p.wrote.next, same_length p)

  pub piece_more : {c : Writer Y} → Puts b c (f (get_or xs i d)) → Puts a c (flat_map f (take (i + 1) xs))
  piece_more q = rw (pieces_more f xs d i h) (then (flat_map f (take i xs)) (f (get_or xs i d)) p q)

pub length_line : (name numbers : List ℕ) → length (line name numbers) ≡ length name + length (words numbers) + 1
length_line name numbers = simp length-append (omega arith)
