-- One note more.
use Rattle.std.proofs.Common.{◌≡◌, ℕ, ◌+◌, ◌<◌, ◌≤◌, Bool, true, ◌&&◌, List, [], ◌∷◌, length, get_or, drop, refl, ap}
use Rattle.std.proofs.lemmas.List.{at_drop_all, at_drop_more}
use Rattle.std.specs.List.{list_all, zip}
use Rattle.ledger.specs.Notes.{no_note, sound_after, sound_next}
use Rattle.ledger.specs.declared.note.Note.{Note}

pub sound_more : (k : ℕ) (y : Note) (ns : List Note) (i : ℕ) → i < length ns
    → sound_after k y (drop i ns) ≡ (sound_next k y (get_or ns i no_note) && sound_after k (get_or ns i no_note) (drop (i + 1) ns))
sound_more k y ns i h = at_drop_more (sound_after k y) ns i no_note h

pub sound_all : (k : ℕ) (y : Note) (ns : List Note) (i : ℕ) → length ns ≤ i → sound_after k y (drop i ns) ≡ true
sound_all k y ns i h = at_drop_all (sound_after k y) ns i h

-- a test that holds drops out
pub past : (b c : Bool) → b ≡ true → (b && c) ≡ c
past b c e = rw e refl

-- each note beside the one before it
pub sound_pairs : (k : ℕ) (y : Note) (ns : List Note) → list_all (λ p. sound_next k p.0 p.1) (zip (y ∷ ns) ns) ≡ sound_after k y ns
sound_pairs k y [] = refl
sound_pairs k y (x ∷ xs) = ap (λ b. sound_next k y x && b) (sound_pairs k x xs)
