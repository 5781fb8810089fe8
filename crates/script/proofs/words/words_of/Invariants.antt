use Rattle.std.proofs.Common.{◌≡◌, ℕ, ◌≤◌, ◌++◌, map, length, vec_items}
use Rattle.script.specs.Words.{line_words, words_within}
use Rattle.script.proofs.words.words_of.Given as goal

abbrev pub invariant-loop-word : goal.invariant-loop-word
invariant-loop-word l = (most : ℕ) × (length l.rest ≤ most) × (map (λ word. word.now) (vec_items l.words) ++ words_within most l.rest ≡ line_words l.line)

abbrev pub decreases-loop-word : goal.decreases-loop-word
decreases-loop-word l = length l.rest
