-- The bytes that stand between a value's children: their tags, and the end.
-- Assumes nothing: these are definitions.
use Rattle.std.specs.Prelude.{ℕ, List, []}
use Rattle.rules.specs.Bytes.{le}
use Rattle.rules.specs.Wire.{end_tag}
use Rattle.leaves.specs.Shapes.{Shape, as_variant, as_repeated, as_tuple}

-- the bytes of a tag, and those after the last child
unfoldable pub tag_bytes : Shape → ℕ → List ℕ
tag_bytes (as_variant w) t = le w t
tag_bytes (as_repeated w) t = le w t
tag_bytes as_tuple t = []

unfoldable pub closing : Shape → List ℕ
closing (as_variant w) = []
closing (as_repeated w) = le w (end_tag w)
closing as_tuple = []
