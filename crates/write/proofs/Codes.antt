-- What a wire code says of a child's number and tag and of the end, by the ranges that the code's tests tell apart.
-- Assumes nothing.
use Prim.Native.Nat.{ℕ, ◌+◌, ◌≤◌, ◌<◌}
use mathlib.Core.Path.{◌≡◌, refl}
use mathlib.Core.Bool.{Bool, true, false}
use mathlib.Core.List.{[]}
use native.Mathlib.Omega.{arith}
use borrow.Author.Tests.{lt-ltb}
use lib.Dec.{ltb}
use Rattle.rules.specs.Choice.{pick}
use Rattle.rules.specs.Wire.{wire_types, type_in, type_of, written, written_if, form, width_of, end_tag}
use Rattle.rules.specs.Bytes.{le}
use Rattle.leaves.specs.Shapes.{as_variant, as_repeated, shape_of}
use Rattle.leaves.proofs.Codes.{shape_variant, shape_repeated, shape_tuple}
use Rattle.judge.specs.Tags.{tag_bytes, closing}
use Rattle.write.specs.Putting.{child_node}

-- a tag names the child, but for a tuple's
pub tagged_child_lem : (code first i tag : ℕ) → code < 19 → first + tag ≡ child_node (shape_of code) first i tag
unfolding shape_of pick child_node
tagged_child_lem code first i tag h = rw (lt-ltb code 19 h) (either (ltb code 17))
  where
    either : (b : Bool) → first + tag ≡ child_node (pick b (as_variant (width_of (form code))) (as_repeated (width_of (form code)))) first i tag
    either true = refl
    either false = refl

-- and is written before it
tag_bytes_lem : (code tag : ℕ) → code < 19 → tag_bytes (shape_of code) tag ≡ le (width_of (form code)) tag
unfolding shape_of pick tag_bytes
tag_bytes_lem code tag h = rw (lt-ltb code 19 h) (either (ltb code 17))
  where
    either : (b : Bool) → tag_bytes (pick b (as_variant (width_of (form code))) (as_repeated (width_of (form code)))) tag ≡ le (width_of (form code)) tag
    either true = refl
    either false = refl

pub tag_number : (code tag w : ℕ) → code ≤ 18 → w ≡ width_of (form code) → tag_bytes (shape_of code) tag ≡ le w tag
tag_number code tag w h e = rw e (tag_bytes_lem code tag (omega arith))

-- ---- what stands after the children

pub no_end : (code : ℕ) → code < 17 → closing (shape_of code) ≡ []
unfolding closing
no_end code h = rw (shape_variant code h)

pub tuple_end : (code : ℕ) → 19 ≤ code → closing (shape_of code) ≡ []
unfolding closing
tuple_end code h = rw (shape_tuple code h)

pub end_8 : (code : ℕ) → code ≡ 17 → closing (shape_of code) ≡ le 1 255
unfolding closing end_tag wire_types type_in type_of written written_if form width_of
end_8 code e = rw (e, shape_repeated 17 (omega arith) (omega arith))

pub end_16 : (code : ℕ) → code ≡ 18 → closing (shape_of code) ≡ le 2 65535
unfolding closing end_tag wire_types type_in type_of written written_if form width_of
end_16 code e = rw (e, shape_repeated 18 (omega arith) (omega arith))

-- no tag
pub no_tag : (code tag : ℕ) → 19 ≤ code → tag_bytes (shape_of code) tag ≡ []
unfolding tag_bytes
no_tag code tag h = rw (shape_tuple code h)
