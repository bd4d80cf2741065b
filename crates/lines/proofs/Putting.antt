-- Texts put one behind another.
-- Assumes nothing.
use Prim.Native.Nat.{ℕ, zero, suc, ◌+◌, ◌/◌, ◌%◌, ◌≤◌, ◌<◌}
use mathlib.Core.Path.{◌≡◌, refl, sym, ap, ◌∙◌}
use mathlib.Core.Bool.{Bool, true, false}
use mathlib.Core.List.{List, [], ◌∷◌, ◌++◌}
use native.Mathlib.Omega.{arith}
use lib.ListN.{length, get_or, set, take, length-append}
use lib.Dec.{eqb}
use borrow.Author.Tests.{ne_eqb, eq-eqb}
use Rattle.rules.specs.Choice.{pick}
use Rattle.rules.specs.Bytes.{over}
use Rattle.rules.specs.Names.{ascii}
use Rattle.rules.proofs.Over.{over-at}
use Rattle.rules.specs.Lines.{decimal, word, is_none, spaced, item, closing_bracket}
use Rattle.lines.specs.Puts.{TextPut}
use Rattle.lines.proofs.Decimals.{decimal_small, decimal_more}

-- two texts are one
pub put_both : (s₀ s t xs ys : List ℕ) (at mid end : ℕ) → TextPut s₀ at xs s mid → TextPut s mid ys t end → TextPut s₀ at (xs ++ ys) t end
put_both s₀ s t xs ys at mid end p q = record {
  holds = q.holds ∙ rw p.holds (over-at xs ys s₀ at mid p.ends);
  ends = q.ends ∙ rw (p.ends, length-append xs ys) (omega arith);
}

-- a digit
pub put_digit : (s : List ℕ) (at d : ℕ) → TextPut s at (d ∷ []) (set s at d) (at + 1)
unfolding over
put_digit s at d = record { holds = refl; ends = refl }

pub put_small : (s : List ℕ) (at n : ℕ) → n < 10 → TextPut s at (decimal n) (set s at (48 + n)) (at + 1)
put_small s at n h = rw (decimal_small n h) (put_digit s at (48 + n))

pub put_more : (s₀ s : List ℕ) (at last n : ℕ) → 10 ≤ n → TextPut s₀ at (decimal (n / 10)) s last → TextPut s₀ at (decimal n) (set s last (48 + n % 10)) (last + 1)
put_more s₀ s at last n h p = rw (decimal_more n h) (put_both _ _ _ _ _ _ _ _ p (put_digit s last (48 + n % 10)))

-- ---- words

-- a blank ends a word, and any other byte is of it
word_ends : (x : ℕ) (xs : List ℕ) → x ≡ 32 → word (x ∷ xs) ≡ []
unfolding word pick
word_ends x xs e = rw (eq-eqb x 32 e)

word_goes_on : (x : ℕ) (xs : List ℕ) → (x ≡ 32 → ⊥) → word (x ∷ xs) ≡ x ∷ word xs
unfolding word pick
word_goes_on x xs h = rw (ne_eqb x 32 h)

-- a text's word is what stands before its first blank
pub word_take : (text : List ℕ) (n : ℕ) → n ≤ length text → ((k : ℕ) → k < n → get_or text k 0 ≡ 32 → ⊥) → (n < length text → get_or text n 0 ≡ 32) → take n text ≡ word text
word_take [] zero h before blank = unfold word in refl
word_take [] (suc n) h before blank = absurd (omega arith)
word_take (x ∷ xs) zero h before blank = sym (word_ends x xs (blank (omega arith)))
word_take (x ∷ xs) (suc n) h before blank =
    let rest = word_take xs n (omega arith) (λ k l. before (suc k) (omega arith)) (λ l. blank (omega arith)) in
    ap (λ (ys : List ℕ). x ∷ ys) rest ∙ sym (word_goes_on x xs (before 0 (omega arith)))

-- whether a text has a word
pub none_empty : (text : List ℕ) → length text ≡ 0 → true ≡ is_none (word text)
unfolding word is_none
none_empty [] h = refl
none_empty (x ∷ xs) h = absurd (omega arith)

pub none_blank : (text : List ℕ) → 0 < length text → eqb (get_or text 0 0) 32 ≡ is_none (word text)
unfolding word is_none pick
none_blank [] h = absurd (omega arith)
none_blank (x ∷ xs) h = by (eqb x 32)
  where
    by : (b : Bool) → b ≡ is_none (pick b [] (x ∷ word xs))
    by true = refl
    by false = refl

-- nothing is put
pub put_none : (s : List ℕ) (at : ℕ) → TextPut s at [] s at
unfolding over
put_none s at = record { holds = refl; ends = omega arith }

module _ (s : List ℕ) (at : ℕ) (w : List ℕ) where
  pub put_no_spaced : is_none w ≡ true → TextPut s at (spaced w) s at
  unfolding spaced pick
  put_no_spaced e = rw e (put_none s at)

  pub put_the_spaced : (t : List ℕ) (end : ℕ) → is_none w ≡ false → TextPut s at (32 ∷ w) t end → TextPut s at (spaced w) t end
  unfolding spaced pick
  put_the_spaced t end e p = rw e p

module _ (s : List ℕ) (at : ℕ) (before label : List ℕ) (value : ℕ) (w : List ℕ) where
  pub put_no_item : is_none label ≡ true → TextPut s at (item before label value w) s at
  unfolding item pick
  put_no_item e = rw e (put_none s at)

  pub put_the_item : (t : List ℕ) (end : ℕ) → is_none label ≡ false → TextPut s at (before ++ (label ++ ((32 ∷ decimal value) ++ spaced w))) t end → TextPut s at (item before label value w) t end
  unfolding item pick
  put_the_item t end e p = rw e p

-- the same text by another name
pub put_same : {A : Type 0} (text : A → List ℕ) (s t : List ℕ) (at end : ℕ) (x y : A) → x ≡ y → TextPut s at (text y) t end → TextPut s at (text x) t end
put_same text s t at end x y e p = rw e p

-- the same item by other names
pub put_item_is : (s t : List ℕ) (at end : ℕ) (before label label' : List ℕ) (value : ℕ) (w w' : List ℕ) → label ≡ label' → w ≡ w' → TextPut s at (item before label value w) t end → TextPut s at (item before label' value w') t end
put_item_is s t at end before label label' value w w' e k p = rw (← e, ← k) p

module _ (s : List ℕ) (at : ℕ) (label label' : List ℕ) (is : label ≡ label') where
  pub put_no_closing : is_none label ≡ true → TextPut s at (closing_bracket label') s at
  unfolding closing_bracket pick
  put_no_closing e = rw (← is, e) (put_none s at)

  pub put_the_closing : (t : List ℕ) (end : ℕ) → is_none label ≡ false → TextPut s at (ascii ")") t end → TextPut s at (closing_bracket label') t end
  unfolding closing_bracket pick
  put_the_closing t end e p = rw (← is, e) p
