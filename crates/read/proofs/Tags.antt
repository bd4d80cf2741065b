-- The next child of a node whose children have tags.
-- Assumes nothing.
use Prim.Native.Nat.{ℕ, ◌+◌, ◌≤◌}
use mathlib.Core.Path.{◌≡◌, refl}
use mathlib.Core.Bool.{Bool, true, false}
use mathlib.Core.List.{List}
use native.Mathlib.Omega.{arith}
use borrow.Author.Tests.{lt-ltb}
use lib.Dec.{ltb}
use Rattle.rules.specs.Choice.{pick}
use Rattle.rules.specs.Wire.{form, width_of}
use Rattle.leaves.specs.Fields.{read_number_at}
use Rattle.leaves.specs.Shapes.{as_variant, as_repeated, shape_of}
use Rattle.read.specs.Children.{by_tag, picked}

-- up to 18 a tag says which child
pub picked_tag : (code first count : ℕ) (inp : List ℕ) (i at : ℕ) → code ≤ 18 →
    picked code first count inp (shape_of code) i at ≡ by_tag code first count (shape_of code) at (read_number_at inp (width_of (form code)) (14 + width_of (form code)) at)
unfolding shape_of pick picked
picked_tag code first count inp i at h = rw (lt-ltb code 19 (omega arith)) (either (ltb code 17))
  where
    either : (b : Bool) →
        picked code first count inp (pick b (as_variant (width_of (form code))) (as_repeated (width_of (form code)))) i at
        ≡ by_tag code first count (pick b (as_variant (width_of (form code))) (as_repeated (width_of (form code)))) at (read_number_at inp (width_of (form code)) (14 + width_of (form code)) at)
    either true = refl
    either false = refl
