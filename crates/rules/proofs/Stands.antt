-- Bytes that stand at a position of a list, and numbers among them, over the width.
-- Assumes nothing.
use Prim.Native.Nat.{ℕ, zero, suc, ◌+◌, ◌*◌, ◌^◌, ◌≤◌, ◌<◌, ◌/◌, ◌%◌}
use mathlib.Core.Path.{◌≡◌, refl, sym, ap, ◌∙◌}
use mathlib.Core.List.{List, [], ◌∷◌, ◌++◌, append-nil}
use native.Mathlib.Omega.{arith}
use native.Mathlib.Nat.{add-zero}
use native.Mathlib.Numerals.{add-one}
use lib.ListN.{length, get_or, replicate, length-append, length-replicate}
use lib.Seq.{get_or-append_seam, append_snoc}
use Rattle.rules.specs.Bytes.{Bytes, le, le_at, part, Stands}

-- an array of n zeros has n bytes: stated over any count, so that nothing is counted at a large one
pub length_zeros : (n : ℕ) → n ≡ length {0} {A = ℕ} (replicate {0} n 0)
length_zeros n = sym (length-replicate {0} n 0)

-- a number in w bytes has w bytes
pub length-le : (w x : ℕ) → length (le w x) ≡ w
unfolding le
length-le zero x = refl
length-le (suc w) x = ap suc (length-le w (x / 256))

-- n bytes that are read are n bytes
pub length_part : (s : List ℕ) (at n : ℕ) → length (part s at n) ≡ n
unfolding part
length_part s at zero = refl
length_part s at (suc n) = ap suc (length_part s (at + 1) n)

-- a number behind the first byte is one of the rest
le_at-behind : (x : ℕ) (xs : List ℕ) (at w : ℕ) → le_at (x ∷ xs) (at + 1) w ≡ le_at xs at w
unfolding le_at
le_at-behind x xs at zero = refl
le_at-behind x xs at (suc w) =
    let b : get_or (x ∷ xs) (at + 1) 0 ≡ get_or xs at 0 = rw (add-one at) in
    rw (b, le_at-behind x xs (at + 1) w)

module _ (s : List ℕ) where
  -- what stands somewhere ends within the list
  pub stands_in : (at : ℕ) (xs : List ℕ) → Stands s at xs → at + length xs ≤ length s
  unfolding Stands
  stands_in at [] h = omega arith
  stands_in at (x ∷ xs) h = omega (arith, stands_in (at + 1) xs h.1)

  -- the first part of what stands
  pub stands_left : (at : ℕ) (xs ys : List ℕ) → Stands s at (xs ++ ys) → Stands s at xs
  unfolding Stands
  stands_left at [] ys h = omega (arith, stands_in at ys h)
  stands_left at (x ∷ xs) ys h = (h.0, stands_left (at + 1) xs ys h.1)

  -- and the second part
  pub stands_right : (at : ℕ) (xs ys : List ℕ) → Stands s at (xs ++ ys) → Stands s (at + length xs) ys
  unfolding Stands
  stands_right at [] ys h = rw (add-zero at) h
  stands_right at (x ∷ xs) ys h =
      let e : at + suc (length xs) ≡ (at + 1) + length xs = omega arith in
      rw e (stands_right (at + 1) xs ys h.1)

  -- two parts that stand one after the other stand together
  pub stands_both : (at : ℕ) (xs ys : List ℕ) → Stands s at xs → Stands s (at + length xs) ys → Stands s at (xs ++ ys)
  unfolding Stands
  stands_both at [] ys h k = rw add-zero at k
  stands_both at (x ∷ xs) ys h k =
      let e : at + suc (length xs) ≡ (at + 1) + length xs = omega arith in
      (h.0, stands_both (at + 1) xs ys h.1 (rw e at k))

  -- what stands there is what is read there
  pub stands_part : (at : ℕ) (xs : List ℕ) → Stands s at xs → part s at (length xs) ≡ xs
  unfolding Stands part
  stands_part at [] h = refl
  stands_part at (x ∷ xs) h = rw (h.0.1, stands_part (at + 1) xs h.1)

  -- and so is its number
  pub stands_number : (at : ℕ) (xs : List ℕ) → Stands s at xs → le_at s at (length xs) ≡ le_at xs 0 (length xs)
  unfolding Stands le_at
  stands_number at [] h = refl
  stands_number at (x ∷ xs) h = rw (h.0.1, stands_number (at + 1) xs h.1, le_at-behind x xs 0 (length xs))

  -- what is read there stands there
  pub part-stands : (at n : ℕ) → at + n ≤ length s → Stands s at (part s at n)
  unfolding Stands part
  part-stands at zero h = omega arith
  part-stands at (suc n) h = ((omega arith, refl), part-stands (at + 1) n (omega arith))

  -- what stands as a number that fits is read as that number
  pub stands_le : (at w x : ℕ) → x < 256 ^ w → Stands s at (le w x) → le_at s at w ≡ x
  unfolding Stands le le_at
  stands_le at zero x b h = omega arith
  stands_le at (suc w) x b h = omega (arith, h.0.1, stands_le (at + 1) w (x / 256) (omega arith) h.1)

  -- whatever stands as a number is read as one that fits
  pub stands_fits : (at w x : ℕ) → Stands s at (le w x) → le_at s at w < 256 ^ w
  unfolding Stands le le_at
  stands_fits at zero x h = omega arith
  stands_fits at (suc w) x h = omega (arith, h.0.1, stands_fits (at + 1) w (x / 256) h.1)

  -- bytes stand as the number that they are read as
  module _ (bs : Bytes s) where
    pub le_at_lt : (at w : ℕ) → le_at s at w < 256 ^ w
    unfolding le_at
    le_at_lt at zero = omega arith
    le_at_lt at (suc w) = omega (arith, bs at, le_at_lt (at + 1) w)

    pub le-le_at : (at w : ℕ) → le w (le_at s at w) ≡ part s at w
    unfolding le_at le part
    le-le_at at zero = refl
    le-le_at at (suc w) =
        let m : (get_or s at 0 + 256 * le_at s (at + 1) w) % 256 ≡ get_or s at 0 = omega (arith, bs at) in
        let d : (get_or s at 0 + 256 * le_at s (at + 1) w) / 256 ≡ le_at s (at + 1) w = omega (arith, bs at) in
        rw (m, d, le-le_at (at + 1) w)

    pub le_at-stands : (at w : ℕ) → at + w ≤ length s → Stands s at (le w (le_at s at w))
    le_at-stands at w h = rw (le-le_at at w) (part-stands at w h)

-- a list stands between what comes before and after it
pub stands_seam : (xs ys zs : List ℕ) → Stands (xs ++ (ys ++ zs)) (length xs) ys
unfolding Stands
stands_seam xs [] zs = simp length-append (omega arith)
stands_seam xs (y ∷ ys) zs =
    let e : (xs ++ (y ∷ [])) ++ (ys ++ zs) ≡ xs ++ (y ∷ (ys ++ zs)) = append_snoc xs y (ys ++ zs) in
    let l : length (xs ++ (y ∷ [])) ≡ length xs + 1 = length-append xs (y ∷ []) in
    ((simp length-append (omega arith), get_or-append_seam xs y (ys ++ zs) 0), rw (e, l) at (stands_seam (xs ++ (y ∷ [])) ys zs))

-- a list stands in itself
pub stands_self : (xs : List ℕ) → Stands xs 0 xs
stands_self xs = rw append-nil at (stands_seam [] xs [])

pub part-whole : (xs : List ℕ) → part xs 0 (length xs) ≡ xs
part-whole xs = stands_part xs 0 xs (stands_self xs)

-- a list of the same length that stands at the start is the whole list
pub stands_whole : (s xs : List ℕ) → Stands s 0 xs → length s ≡ length xs → s ≡ xs
stands_whole s xs h e = sym (part-whole s) ∙ rw (← e) at (stands_part s 0 xs h)
