-- Laws of the answer slice: numbers one after another.
-- Assumes nothing.
use Prim.Native.Nat.{ℕ, ◌+◌, ◌*◌}
use mathlib.Core.Path.{◌≡◌, refl, sym, ◌∙◌}
use mathlib.Core.List.{List, [], ◌∷◌, ◌++◌, append_assoc, append-nil}
use native.Mathlib.Omega.{arith}
use lib.ListN.{length, length-append}
use Rattle.rules.specs.Bytes.{le, over}
use Rattle.rules.proofs.Over.{over-at}
use Rattle.rules.proofs.Stands.{length-le}
use Rattle.answers.specs.Answers.{words}

words_one : (x : ℕ) → words (x ∷ []) ≡ le 8 x
unfolding words
words_one x = append-nil (le 8 x)

words_append : (xs ys : List ℕ) → words (xs ++ ys) ≡ words xs ++ words ys
unfolding words
words_append [] ys = refl
words_append (x ∷ xs) ys = rw (words_append xs ys) (sym (append_assoc (le 8 x) (words xs) (words ys)))

length-words : (xs : List ℕ) → length (words xs) ≡ length xs * 8
unfolding words
length-words [] = refl
length-words (x ∷ xs) =
    let l : length (le 8 x) ≡ 8 = length-le 8 x in
    let m : length (words xs) ≡ length xs * 8 = length-words xs in
    length-append (le 8 x) (words xs) ∙ omega arith

-- a number, and those after it
first_word : (s s' : List ℕ) (at next x : ℕ) (xs : List ℕ) → next ≡ at + 8 → s' ≡ over s at (le 8 x) → over s' next (words xs) ≡ over s at (words (x ∷ xs))
unfolding words
first_word s s' at next x xs e p =
    let l : length (le 8 x) ≡ 8 = length-le 8 x in
    rw p (over-at (le 8 x) (words xs) s at next (omega arith))

pub five : (s s₁ s₂ s₃ s₄ s₅ : List ℕ) (at a b c d e : ℕ) → s₁ ≡ over s at (le 8 a) → s₂ ≡ over s₁ (at + 8) (le 8 b) → s₃ ≡ over s₂ (at + 16) (le 8 c) → s₄ ≡ over s₃ (at + 24) (le 8 d) → s₅ ≡ over s₄ (at + 32) (le 8 e) → s₅ ≡ over s at (words (a ∷ b ∷ c ∷ d ∷ e ∷ []))
five s s₁ s₂ s₃ s₄ s₅ at a b c d e p₁ p₂ p₃ p₄ p₅ =
    p₅
    ∙ rw (← words_one e) (first_word s₃ s₄ (at + 24) (at + 32) d (e ∷ []) (omega arith) p₄)
    ∙ first_word s₂ s₃ (at + 16) (at + 24) c (d ∷ e ∷ []) (omega arith) p₃
    ∙ first_word s₁ s₂ (at + 8) (at + 16) b (c ∷ d ∷ e ∷ []) (omega arith) p₂
    ∙ first_word s s₁ at (at + 8) a (b ∷ c ∷ d ∷ e ∷ []) refl p₁

-- one number, five, and five more
pub eleven : (s s₁ s₂ s₃ : List ℕ) (x : ℕ) (xs ys : List ℕ) → length xs ≡ 5 → s₁ ≡ over s 0 (le 8 x) → s₂ ≡ over s₁ 8 (words xs) → s₃ ≡ over s₂ 48 (words ys) → s₃ ≡ over s 0 (words (x ∷ xs ++ ys))
eleven s s₁ s₂ s₃ x xs ys l p₁ p₂ p₃ =
    let m : length (words xs) ≡ length xs * 8 = length-words xs in
    rw (p₃, p₂, over-at (words xs) (words ys) s₁ 8 48 (omega arith), ← words_append xs ys) (first_word s s₁ 0 8 x (xs ++ ys) refl p₁)
