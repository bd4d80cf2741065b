-- Blocks as parts of the record table: their length, and what the walks over a block ask of it.
-- Assumes nothing.
use Prim.Native.Nat.{ℕ, ◌+◌, ◌-◌, ◌^◌, ◌≤◌, ◌<◌}
use mathlib.Core.Path.{◌≡◌}
use mathlib.Core.Bool.{true}
use mathlib.Core.List.{List}
use native.Mathlib.Omega.{arith}
use borrow.Author.Tests.{leb-true}
use lib.ListN.{length, take, drop, length-take, length-drop}
use Rattle.rules.specs.Block.{node_size, node_start, NodeIn, node_at, records, block, Closed}
use Rattle.rules.specs.declared.table_record.Node.{Node}
use Rattle.rules.specs.Format.{block_form_ok}
use Rattle.rules.proofs.Tests.{and_both}
use Rattle.block_laws.proofs.Form.{ordered, closed}
use Rattle.block.specs.Sound.{SoundBlock}

module _ (table : List ℕ) (first n : ℕ) where
  -- the part of the table from its first byte to its last
  pub block_part : take (node_start (first + n) - node_start first) (drop (node_start first) table) ≡ block table first n
  unfolding block
  block_part = let e : node_start (first + n) - node_start first ≡ node_start n = omega arith in rw e

  pub block_length : first + n ≤ records table → length (block table first n) ≡ node_start n
  unfolding block
  block_length h = simp (length-take, length-drop) (omega arith)

  -- a block that has the form
  pub form_sound : (store : ℕ) → block_form_ok table store first n ≡ true → SoundBlock table first n
  unfolding block_form_ok
  form_sound store e = let p = and_both _ _ e in record { within = leb-true _ _ p.0; order = ordered _ _ p.1 }

  -- what a walk over the block asks, its places being records of the table
  pub sound_walks : SoundBlock table first n → length table < 2 ^ 64 → (s : List ℕ) → s ≡ block table first n → Closed s × (node_size ≤ length s) × (first + records s < 2 ^ 64)
  sound_walks h b s e = rw e (closed _ h.order, omega (arith, h.order.size), omega (arith, h.within, block_length h.within))

-- a node's children lie in a block that is closed
pub children_inside : (s : List ℕ) → Closed s → (i : ℕ) → NodeIn i (length s) → (n : Node) → n ≡ node_at s i → node_start (n.first + n.children) ≤ length s
unfolding Closed
children_inside s h i l n is = rw is (h i l)
