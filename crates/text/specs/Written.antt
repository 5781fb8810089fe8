-- Text written into a buffer, or anything else into a lent slice.
use Rattle.std.specs.Prelude.{◌≡◌, ℕ, ◌+◌, ◌≤◌, cond, List, ◌++◌, length, take, drop, Some, None, Option, nat_le}
use Rattle.text.specs.declared.write.Writer.{Writer}

-- the buffer with text from an index on
abbrev pub written : {X : Type 0} → List X → ℕ → List X → List X
written buffer at text = take at buffer ++ (text ++ drop (at + length text) buffer)

-- text was written from an index on, which left `after` and ended at `end`
pub record Wrote {X : Type 0} (before : List X) (at : ℕ) (text after : List X) (end : ℕ) : Type 0 where
  pub is : after ≡ written before at text
  pub next : end ≡ at + length text
  pub room : at + length text ≤ length before

-- the lent memory has room for the text
abbrev pub HasRoom : {X : Type 0} → Writer X → List X → Type 0
HasRoom w text = w.at + length text ≤ length w.buffer.now

-- the text was written next, into the same memory
pub record Puts {X : Type 0} (old new : Writer X) (text : List X) : Type 0 where
  pub same : new.buffer.ghost_name ≡ old.buffer.ghost_name
  pub wrote : Wrote old.buffer.now old.at text new.buffer.now new.at

-- a call that writes the whole text at the front, or nothing: what it answers,
abbrev pub length_if_fits : List ℕ → List ℕ → Option ℕ
length_if_fits text buffer = cond (nat_le (length text) (length buffer)) (Some (length text)) None

-- and what it leaves: bytes beyond the text stay
abbrev pub left_if_fits : List ℕ → List ℕ → List ℕ
left_if_fits text buffer = cond (nat_le (length text) (length buffer)) (text ++ drop (length text) buffer) buffer
