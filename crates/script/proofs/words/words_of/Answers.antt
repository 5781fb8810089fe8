use Rattle.std.proofs.Common.{◌≡◌, ℕ, zero, suc, true, false, ◌<◌, ◌-◌, ◌++◌, List, [], ◌∷◌, map, length, is_ok, Bor, refl, sym, ap, append_assoc, append-nil, arith}
use Rattle.std.proofs.ResultArms.{chosen}
use Rattle.std.proofs.lemmas.Bool.{false≢true}
use Rattle.std.proofs.lemmas.Bool.Decides.{nat_tests}
use Rattle.std.proofs.lemmas.List.{map_push}
use Rattle.script.specs.Words.{after_word, first_word, uncommented, words_within}
use Rattle.script.proofs.words.words_of.Goals as goal

some : (n : ℕ) → (n ≡ 0 → true ≡ false) → 0 < n
some zero h = absurd (false≢true (sym (h refl)))
some (suc n) h = omega arith

one_more : (most : ℕ) (text : List ℕ) → 0 < length (first_word text) → 0 < most → words_within most text ≡ first_word text ∷ words_within (most - 1) (after_word text)
one_more zero text some room = absurd (omega arith)
one_more (suc most) text some room = grind (arith, nat_tests)

no_more : (most : ℕ) (text : List ℕ) → length (first_word text) ≡ 0 → words_within most text ≡ []
no_more zero text none = refl
no_more (suc most) text none = grind (arith, nat_tests)

pub loop-word-init : goal.loop-word-init
loop-word-init c =
    let most = length (uncommented c.args.line.now) in
    let e = c.before_comment-rest.ensures in
    (most, omega (arith, ap length e), (λ k. map (λ (word : Bor (List ℕ)). word.now) (c.new-words.ensures.items k) ++ words_within most (e k)))

pub loop-word-preserved : goal.loop-word-preserved
loop-word-preserved c =
    let inv = c.loop-word.invariant in
    let cut = c.in-Some.ensures in
    let pushed = chosen _ _ _ _ c.push.ensures.items (ap is_ok c.in_ok-push.was) in
    let more = one_more inv.0 c.loop-word.rest.now (some _ cut.none.1) (omega (arith, inv.1, cut.less)) in (
      inv.0 - 1,
      omega (arith, inv.1, cut.less),
      rw (pushed, map_push (λ (word : Bor (List ℕ)). word.now), append_assoc, cut.word, cut.rest, ← more) inv.2,
    )

pub returns : goal.returns
returns c =
    let inv = c.loop-word.invariant in
    let none = no_more inv.0 c.loop-word.rest.now (c.in_default.ensures.none.0 refl) in
    rw (none, append-nil) at inv.2
