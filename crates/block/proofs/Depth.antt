-- A block is no deeper than it has records, so that one of few records is not too deep.
-- Assumes nothing.
use Prim.Native.Nat.{ℕ, ◌≤◌}
use mathlib.Core.Path.{◌≡◌, sym}
use mathlib.Core.Bool.{true}
use mathlib.Core.List.{List, []}
use native.Mathlib.Omega.{arith}
use borrow.Author.Tests.{le-leb}
use Rattle.rules.specs.Block.{records, block, depth_of, Ordered}
use Rattle.rules.specs.Format.{block_depth_ok}
use Rattle.block_laws.proofs.Levels.{edge_all, levels, shallow_deep, block_denotes}
use Rattle.block.specs.Sound.{SoundBlock}
use Rattle.block.proofs.Parts.{block_length}

pub depth_records : (s : List ℕ) → Ordered s → depth_of s ≤ records s
unfolding depth_of
depth_records s f = shallow_deep s [] (block_denotes s [] f) (records s) ((levels s f (records s)).0 (edge_all s f))

pub few_records : (table : List ℕ) (first n : ℕ) → SoundBlock table first n → n ≤ 64 → true ≡ block_depth_ok table first n
unfolding block_depth_ok
few_records table first n h l =
    sym (le-leb (depth_of (block table first n)) 64 (omega (arith, depth_records _ h.order, block_length table first n h.within)))
