-- The order of byte strings is the order in which the library compares slices; and how it is found byte by byte, and from the first bytes as one number.
-- Assumes nothing.
use Rattle.std.proofs.Common.{Ordering, Less, Equal, Greater}
use Rattle.std.specs.Ordering.{nat_cmp, ordering_then, MatchOrdering}
use Rattle.std.specs.Cmp.{ranks}
use Rattle.std.specs.Cmp.Lexicographic.{slice_cmp}
use Prim.Native.Nat.{ℕ, zero, suc, ◌+◌, ◌-◌, ◌*◌, ◌≤◌, ◌<◌}
use mathlib.Core.Path.{◌≡◌, refl, sym, ◌∙◌}
use mathlib.Core.List.{List, [], ◌∷◌}
use mathlib.Core.Logic.{◌⊎◌}
use native.Mathlib.Omega.{arith}
use native.Mathlib.Nat.{not-suc-le-zero}
use lib.ListN.{get_or}
use Rattle.rules.specs.Bytes.{Bytes, part, order}
use Rattle.wire.specs.Heads.{be_at}
use Rattle.rules.proofs.Orders.{order_cons_same, order_cons_less, order_cons_greater, turned, order_turned}
use Rattle.wire.proofs.Parts.{part_none, part_step, part_end}

pub cmp_is_order : (xs ys : List ℕ) → slice_cmp nat_cmp xs ys ≡ order xs ys
unfolding order
cmp_is_order [] [] = refl
cmp_is_order [] (y ∷ ys) = refl
cmp_is_order (x ∷ xs) [] = refl
cmp_is_order (x ∷ xs) (y ∷ ys) = by (nat_cmp x y) (ranks x y) (cmp_is_order xs ys)
  where
    by : (o : Ordering) → MatchOrdering o (x < y) (x ≡ y) (y < x) → slice_cmp nat_cmp xs ys ≡ order xs ys → ordering_then o (slice_cmp nat_cmp xs ys) ≡ order (x ∷ xs) (y ∷ ys)
    by Less h rest = sym (order_cons_less x y xs ys h)
    by Equal h rest = rest ∙ sym (order_cons_same x y xs ys h)
    by Greater h rest = sym (order_cons_greater x y xs ys h)

-- four bytes, each with its number
pub four_bytes : (s : List ℕ) (at p q r u : ℕ) → p ≡ get_or s at 0 → q ≡ get_or s (at + 1) 0 → r ≡ get_or s (at + 2) 0 → u ≡ get_or s (at + 3) 0 → 256 * (256 * (256 * p + q) + r) + u ≡ be_at s at 4
unfolding be_at
four_bytes s at p q r u e f g h = let first : at + 0 ≡ at = omega arith in rw first (omega (arith, e, f, g, h))

-- two spans: what is left of them from their k-th bytes on decides as the whole does
module _ (s t : List ℕ) (a la b lb : ℕ) where
  abbrev pub Rest : ℕ → Type 0
  Rest k = order (part s (a + k) (la - k)) (part t (b + k) (lb - k)) ≡ order (part s a la) (part t b lb)

  pub rest_first : Rest 0
  rest_first = rw (part_none s a la, part_none t b lb)

  module _ (k : ℕ) (rest : Rest k) where
    -- the k-th bytes
    module _ (h : (k < la) × (k < lb)) where
      heads : order (get_or s (a + k) 0 ∷ part s (a + (k + 1)) (la - (k + 1))) (get_or t (b + k) 0 ∷ part t (b + (k + 1)) (lb - (k + 1))) ≡ order (part s a la) (part t b lb)
      heads = rw (part_step s a la k h.0, part_step t b lb k h.1) at rest

      pub rest_less : get_or s (a + k) 0 < get_or t (b + k) 0 → Less ≡ order (part s a la) (part t b lb)
      rest_less l = sym (order_cons_less _ _ _ _ l) ∙ heads

      pub rest_greater : get_or t (b + k) 0 < get_or s (a + k) 0 → Greater ≡ order (part s a la) (part t b lb)
      rest_greater g = sym (order_cons_greater _ _ _ _ g) ∙ heads

      pub rest_next : get_or s (a + k) 0 ≡ get_or t (b + k) 0 → Rest (k + 1)
      rest_next e = sym (order_cons_same _ _ _ _ e) ∙ heads

    -- where the second ends, the first is greater
    pub rest_second_ended : k < la → lb ≤ k → Greater ≡ order (part s a la) (part t b lb)
    unfolding order
    rest_second_ended l h = rw (part_step s a la k l, part_end t (b + k) lb k h) at rest

    -- where one of them ends, their lengths decide
    pub rest_ended : (k ≤ la) × (k ≤ lb) × ((la ≤ k) ⊎ (lb ≤ k)) → nat_cmp la lb ≡ order (part s a la) (part t b lb)
    unfolding order
    rest_ended h = by (nat_cmp la lb) (ranks la lb) ∙ rest
      where
        by : (o : Ordering) → MatchOrdering o (la < lb) (la ≡ lb) (lb < la) → o ≡ order (part s (a + k) (la - k)) (part t (b + k) (lb - k))
        by Less l = rw (part_end s (a + k) la k (omega (arith, h)), part_step t b lb k (omega (arith, h)))
        by Equal e = rw (part_end s (a + k) la k (omega (arith, h)), part_end t (b + k) lb k (omega (arith, h)))
        by Greater g = rw (part_step s a la k (omega (arith, h)), part_end t (b + k) lb k (omega (arith, h)))

  -- ---- the first w bytes of each as one number

  module _ (hs : Bytes s) (ht : Bytes t) where
    -- where the two numbers are the same, what follows decides, else the numbers do
    pub heads_equal : (w : ℕ) → w ≤ la → w ≤ lb → be_at s a w ≡ be_at t b w → Rest w
    unfolding be_at
    heads_equal zero p q e = rest_first
    heads_equal (suc w) p q e =
        let above : be_at s a w ≡ be_at t b w = omega (arith, hs (a + w), ht (b + w), e) in
        let last : get_or s (a + w) 0 ≡ get_or t (b + w) 0 = omega (arith, above, e) in
        let next : suc w ≡ w + 1 = omega arith in
        rw next (rest_next w (heads_equal w (omega arith) (omega arith) above) (omega arith, omega arith) last)

    pub heads_less : (w : ℕ) → w ≤ la → w ≤ lb → be_at s a w < be_at t b w → Less ≡ order (part s a la) (part t b lb)
    unfolding be_at
    heads_less zero p q l = absurd (not-suc-le-zero l)
    heads_less (suc w) p q l = by (heads_less w (omega arith) (omega arith)) (nat_cmp (be_at s a w) (be_at t b w)) (ranks (be_at s a w) (be_at t b w))
      where
        by : (be_at s a w < be_at t b w → Less ≡ order (part s a la) (part t b lb)) → (o : Ordering) → MatchOrdering o (be_at s a w < be_at t b w) (be_at s a w ≡ be_at t b w) (be_at t b w < be_at s a w) → Less ≡ order (part s a la) (part t b lb)
        by below Less h = below h
        by below Equal h = rest_less w (heads_equal w (omega arith) (omega arith) h) (omega arith, omega arith) (omega (arith, h, l))
        by below Greater h = let none : 1 ≤ 0 = omega (arith, h, l, ht (b + w)) in absurd (not-suc-le-zero none)

pub heads_greater : (s t : List ℕ) (a la b lb : ℕ) → Bytes s → Bytes t → (w : ℕ) → w ≤ la → w ≤ lb → be_at t b w < be_at s a w → Greater ≡ order (part s a la) (part t b lb)
unfolding turned
heads_greater s t a la b lb hs ht w p q l = rw (order_turned (part t b lb) (part s a la), ← heads_less t s b lb a la ht hs w q p l)
