-- What the form of a wire code is, by the ranges that the code's tests tell apart.
-- Assumes nothing.
use Prim.Native.Nat.{ℕ, ◌≤◌, ◌<◌}
use mathlib.Core.Path.{◌≡◌, refl}
use mathlib.Core.Bool.{Bool, true}
use mathlib.Core.Logic.{⊎_elim}
use native.Mathlib.Omega.{arith}
use borrow.Author.Tests.{lt-ltb, le-ltb, lt-leb, leb-true}
use lib.Dec.{leb}
use Rattle.rules.specs.Choice.{pick, ◌and◌, all}
use Rattle.rules.specs.Wire.{sized, variant_form, repeated_form, tuple_form, wire_types, type_in, type_of, written, written_if, form, width_of}
use Rattle.rules.proofs.Tests.{all_each}
use Rattle.wire.proofs.CodeTable.{two}
pub use Rattle.wire.proofs.CodeTable.{tag_some}
use Rattle.leaves.specs.Shapes.{as_variant, as_repeated, as_tuple, shape_of}

pub form_variant : (code : ℕ) → 14 < code → code < 17 → form code ≡ variant_form (width_of (form code))
unfolding wire_types type_in type_of written written_if form width_of
form_variant code h l = ⊎_elim (λ e. rw (← e)) (λ e. rw (← e)) (two 15 code h (omega arith))

pub form_repeated : (code : ℕ) → 17 ≤ code → code < 19 → form code ≡ repeated_form (width_of (form code))
unfolding wire_types type_in type_of written written_if form width_of
form_repeated code h l = ⊎_elim (λ e. rw (← e)) (λ e. rw (← e)) (two 17 code h (omega arith))

pub form_tuple : (code : ℕ) → 19 ≤ code → code ≤ 19 → form code ≡ tuple_form
unfolding wire_types type_in type_of written written_if form
form_tuple code h l = let e : code ≡ 19 = omega arith in rw e

pub form_sized : (code : ℕ) → 13 ≤ code → code < 15 → form code ≡ sized
unfolding wire_types type_in type_of written written_if form
form_sized code h l = ⊎_elim (λ e. rw (← e)) (λ e. rw (← e)) (two 13 code h (omega arith))

-- what takes more than the eight bytes of a record takes 16 or more
unfoldable wide_or_not : ℕ → Bool
wide_or_not w = pick (leb w 8) true (leb 16 w)

wide_or_not_lem : (code : ℕ) → code < 13 → wide_or_not (width_of (form code)) ≡ true
unfolding wide_or_not pick all ◌and◌ wire_types type_in type_of written written_if form width_of
wide_or_not_lem code h = all_each (λ i. wide_or_not (width_of (form i))) 13 code refl h

pub wide_width : (code w : ℕ) → code ≤ 12 → w ≡ width_of (form code) → 8 < w → 16 ≤ w
unfolding wide_or_not pick
wide_width code w h e l = leb-true 16 w (rw (lt-leb w 8 l) at (rw (← e) at (wide_or_not_lem code (omega arith))))

-- ---- the shapes

pub shape_variant : (code : ℕ) → code < 17 → shape_of code ≡ as_variant (width_of (form code))
unfolding shape_of pick
shape_variant code h = rw (lt-ltb code 17 h)

pub shape_repeated : (code : ℕ) → 17 ≤ code → code < 19 → shape_of code ≡ as_repeated (width_of (form code))
unfolding shape_of pick
shape_repeated code h l = rw (le-ltb code 17 h, lt-ltb code 19 l)

pub shape_tuple : (code : ℕ) → 19 ≤ code → shape_of code ≡ as_tuple
unfolding shape_of pick
shape_tuple code h = rw (le-ltb code 17 (omega arith), le-ltb code 19 h)
