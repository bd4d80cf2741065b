-- What a wire code says of kinds and shapes, by the ranges that the code's tests tell apart.
-- Assumes nothing.
use Prim.Native.Nat.{ℕ, ◌≤◌, ◌<◌}
use mathlib.Core.Path.{◌≡◌, refl}
use mathlib.Core.Bool.{Bool, true, false}
use native.Mathlib.Omega.{arith}
use borrow.Author.Tests.{lt-ltb, ltb-true, leb-true, eqb-true}
use lib.Dec.{ltb, leb, eqb}
use Rattle.rules.specs.Choice.{pick, ◌and◌, all}
use Rattle.rules.specs.Wire.{Form, empty, truth, fixed, raw, sized, variant_form, repeated_form, tuple_form, unknown, wire_types, type_in, type_of, written, written_if, form, width_of}
use Rattle.rules.specs.Writing.{kind_for}
use Rattle.rules.proofs.Tests.{and_both, all_each}
use Rattle.rules.proofs.Codes.{every_form}
use Rattle.value_laws.proofs.Codes.{variant_taken, repeated_taken, tuple_taken}
use Rattle.leaves.specs.Shapes.{as_variant, as_repeated, as_tuple, shape_of}
use Rattle.leaves.proofs.Codes.{shape_variant, shape_repeated, shape_tuple}
use Rattle.judge.specs.Judging.{tagged_of, chosen_of, count_ok}

-- a code below 15 takes its own kind
pub leaf_kind : (code : ℕ) → code < 15 → code ≡ kind_for code (form code)
unfolding kind_for all ◌and◌ wire_types type_in type_of written written_if form
leaf_kind code h = eqb-true code (kind_for code (form code)) (all_each (λ k. eqb k (kind_for k (form k))) 15 code refl h)

-- ---- the forms, by the ranges

-- up to 18 a tag says which child
pub picked_tag : (code first count i tag r : ℕ) → code ≤ 18 → chosen_of code first count (shape_of code) i tag r ≡ tagged_of code first count (width_of (form code)) tag r
unfolding shape_of pick chosen_of
picked_tag code first count i tag r h = rw (lt-ltb code 19 (omega arith)) (either (ltb code 17))
  where
    either : (b : Bool) → chosen_of code first count (pick b (as_variant (width_of (form code))) (as_repeated (width_of (form code)))) i tag r ≡ tagged_of code first count (width_of (form code)) tag r
    either true = refl
    either false = refl

unfoldable ranged : Form → ℕ → Bool
ranged empty k = eqb k 0
ranged truth k = eqb k 1
ranged (fixed w) k = ltb k 13 and leb w 8
ranged (raw w) k = ltb k 13 and ltb 8 w
ranged sized k = leb 13 k and ltb k 15
ranged (variant_form w) k = ltb k 17
ranged (repeated_form w) k = leb 17 k and ltb k 19
ranged tuple_form k = leb 19 k
ranged unknown k = true

range : (k : ℕ) → ranged (form k) k ≡ true
unfolding ranged all form written written_if type_of type_in wire_types ◌and◌
range k = every_form ranged refl (λ i. refl) k

pub fixed_range : (k w : ℕ) → form k ≡ fixed w → (k < 13) × (w ≤ 8)
unfolding ranged
fixed_range k w e = let h = and_both _ _ (rw e at (range k)) in (ltb-true k 13 h.0, leb-true w 8 h.1)

pub raw_range : (k w : ℕ) → form k ≡ raw w → (k < 13) × (8 < w)
unfolding ranged
raw_range k w e = let h = and_both _ _ (rw e at (range k)) in (ltb-true k 13 h.0, ltb-true 8 w h.1)

pub sized_range : (k : ℕ) → form k ≡ sized → (13 ≤ k) × (k < 15)
unfolding ranged
sized_range k e = let h = and_both _ _ (rw e at (range k)) in (leb-true 13 k h.0, ltb-true k 15 h.1)

-- a code that takes kind 15, 16 or 17 has the shape of that kind
pub variant_shape : (c : ℕ) → 15 ≡ kind_for c (form c) → shape_of c ≡ as_variant (width_of (form c))
unfolding ranged
variant_shape c q = shape_variant c (ltb-true c 17 (rw (variant_taken c q) at (range c)))

pub repeated_shape : (c : ℕ) → 16 ≡ kind_for c (form c) → shape_of c ≡ as_repeated (width_of (form c))
unfolding ranged
repeated_shape c q = let h = and_both _ _ (rw (repeated_taken c q) at (range c)) in shape_repeated c (leb-true 17 c h.0) (ltb-true c 19 h.1)

pub tuple_shape : (c : ℕ) → 17 ≡ kind_for c (form c) → shape_of c ≡ as_tuple
unfolding ranged
tuple_shape c q = shape_tuple c (leb-true 19 c (rw (tuple_taken c q) at (range c)))

-- no width is over 32
unfoldable narrow : Form → ℕ → Bool
narrow f k = leb (width_of f) 32

pub widest : (k : ℕ) → width_of (form k) ≤ 32
unfolding narrow all form written written_if type_of type_in wire_types ◌and◌ width_of
widest k = leb-true (width_of (form k)) 32 (every_form narrow refl (λ i. refl) k)

-- only a tuple's children are counted
pub uncounted : (code size count : ℕ) → code < 19 → true ≡ count_ok (shape_of code) size count
unfolding shape_of pick count_ok
uncounted code size count h = rw (lt-ltb code 19 h) (either (ltb code 17))
  where
    either : (b : Bool) → true ≡ count_ok (pick b (as_variant (width_of (form code))) (as_repeated (width_of (form code)))) size count
    either true = refl
    either false = refl
