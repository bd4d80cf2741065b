-- A node's next child, as one loop over the children of any node asks for it.
-- Assumes nothing: these are definitions.
use Rattle.read.specs.declared.walk.Next.{Next}
use Rattle.rules.specs.declared.refusal.Refusal.{Refusal}
use Rattle.std.specs.Prelude.{ℕ, ◌+◌, List, ltb, Result, Ok, Err}
use Rattle.rules.specs.Choice.{pick}
use Rattle.rules.specs.Refusals.{InvalidVariantTag}
use Rattle.leaves.specs.Shapes.{Shape, as_variant, as_repeated, as_tuple, ends_at}
use Rattle.leaves.specs.Fields.{read_number_at}

module _ (code first count : ℕ) where
  -- the child that a tag at a position names, or 17 there
  unfoldable pub by_tag : Shape → ℕ → Result (ℕ × ℕ) Refusal → Result Next Refusal
  by_tag s at (Ok (tag, next)) =
      pick (ends_at s tag) (Ok (Next.End next))
      (pick (ltb tag count) (Ok (Next.Child (first + tag) next)) (Err (InvalidVariantTag code tag count at)))
  by_tag s at (Err r) = Err r

  -- the child after i others, from a position
  unfoldable pub picked : List ℕ → Shape → ℕ → ℕ → Result Next Refusal
  picked inp (as_variant w) i at = by_tag (as_variant w) at (read_number_at inp w (14 + w) at)
  picked inp (as_repeated w) i at = by_tag (as_repeated w) at (read_number_at inp w (14 + w) at)
  picked inp as_tuple i at = pick (ltb i count) (Ok (Next.Child (first + i) at)) (Ok (Next.End at))
