-- The ways to have children, and the tag that ends them.
-- Assumes nothing: these are definitions.
use Rattle.std.specs.Prelude.{ℕ, Bool, false, ltb, eqb}
use Rattle.rules.specs.Choice.{pick}
use Rattle.rules.specs.Wire.{form, width_of, end_tag}

-- the three ways to have children: the one that a tag of so many bytes names, such pairs until the end tag, all in order
pub data Shape : Type 0 where
  as_variant : ℕ → Shape
  as_repeated : ℕ → Shape
  as_tuple : Shape

unfoldable pub shape_of : ℕ → Shape
shape_of code = pick (ltb code 17) (as_variant (width_of (form code))) (pick (ltb code 19) (as_repeated (width_of (form code))) as_tuple)

-- whether a tag ends the children
unfoldable pub ends_at : Shape → ℕ → Bool
ends_at (as_variant w) tag = false
ends_at (as_repeated w) tag = eqb tag (end_tag w)
ends_at as_tuple tag = false
