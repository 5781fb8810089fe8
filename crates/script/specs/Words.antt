-- Lines and words.
use Rattle.std.specs.Prelude.{ℕ, zero, suc, Bool, cond, not, ◌||◌, List, [], ◌∷◌, length, drop, ◌==◌}
use Rattle.std.specs.List.{position_or_len, before_first, after_first}

-- space, tab and carriage return
abbrev pub blank : ℕ → Bool
blank b = b == 32 || (b == 9 || b == 13)

-- byte 10 ends a line
abbrev pub first_line : List ℕ → List ℕ
first_line text = before_first (λ b. b == 10) text

abbrev pub after_line : List ℕ → List ℕ
after_line text = after_first (λ b. b == 10) text

-- a line without its comment, which byte 35 begins
abbrev pub uncommented : List ℕ → List ℕ
uncommented line = before_first (λ b. b == 35) line

abbrev pub unblanked : List ℕ → List ℕ
unblanked text = drop (position_or_len (λ b. not (blank b)) text) text

abbrev pub first_word : List ℕ → List ℕ
first_word text = before_first blank (unblanked text)

abbrev pub after_word : List ℕ → List ℕ
after_word text = drop (position_or_len blank (unblanked text)) (unblanked text)

-- the words of a text, one after the other, as many as the first number at most
abbrev pub words_within : ℕ → List ℕ → List (List ℕ)
words_within zero text = []
words_within (suc most) text = cond (length (first_word text) == 0) [] (first_word text ∷ words_within most (after_word text))

-- the words of a line: a word has at least one byte, so that no line has more words than bytes
abbrev pub line_words : List ℕ → List (List ℕ)
line_words line = words_within (length (uncommented line)) (uncommented line)
