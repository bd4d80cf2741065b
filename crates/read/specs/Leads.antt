-- What a node comes to at once.
-- Assumes nothing: these are definitions.
use Rattle.std.specs.Prelude.{ℕ, ◌<◌, ◌≡◌, List, Option, Some, None}
use Rattle.rules.specs.Block.{node_at}
use Rattle.leaves.specs.Leaf.{skim_leaf}
use Rattle.read.specs.Skim.{Skimmer, skim_node}
use Rattle.leaves.specs.Leaf.{Readable}
use Rattle.leaves.specs.declared.leaf.SkipPos.{SkipPos}

-- a leaf whose bytes are all that is left of the node, or a node with children
unfoldable pub LeadsToSkip : List ℕ → List ℕ → Skimmer → ℕ → SkipPos → Option (ℕ × SkipPos) → Type 0
LeadsToSkip sch inp rec i p (Some (code, q)) = (skim_node sch inp rec i p ≡ skim_leaf inp code q) × Readable inp q
LeadsToSkip sch inp rec i p None = 14 < (node_at sch i).code
