-- The rules in level order: where every record of a block passes, so does its schema, in whatever order it is asked.
-- Assumes nothing.
use Rattle.rules.specs.declared.refusal.Refusal.{Refusal}
use Rattle.std.specs.Prelude.{⊤}
use Rattle.std.proofs.Common.{Result, Ok}
use Prim.Native.Nat.{ℕ, zero, suc, ◌+◌, ◌≤◌, ◌<◌}
use mathlib.Core.Path.{◌≡◌, sym, ◌∙◌}
use mathlib.Core.List.{List, []}
use native.Mathlib.Omega.{arith}
use lib.ListN.{length}
use Rattle.rules.specs.Wire.{form, maximum}
use Rattle.rules.specs.Refusals.{◌then◌, in_order}
use Rattle.rules.specs.Block.{NodeIn, node_at, records, block, depth_of, Closed}
use Rattle.rules.specs.SchemaRules.{node_rule, rule_at, schema_rule}
use Rattle.rules.specs.Format.{block_rule}
use Rattle.rules.specs.declared.table_record.Node.{Node}
use Rattle.rules.proofs.Checks.{in_order_each, in_order_all}
use Rattle.block_laws.proofs.Form.{closed}
use Rattle.block_laws.proofs.Levels.{Shallow, deep_shallow, block_denotes}
use Rattle.block.specs.Sound.{SoundBlock}
use Rattle.block.proofs.Parts.{block_length}
use Rattle.block.proofs.Depth.{depth_records}

-- what the test of a record says of its node
pub rule_at_lem : (s : List ℕ) (base i : ℕ) (n : Node) (r : Result ⊤ Refusal) → n ≡ node_at s i → r ≡ node_rule (base + i) n (maximum (form n.code)) → r ≡ rule_at s base (0 + i)
unfolding rule_at
rule_at_lem s base i n r a e =
    let z : 0 + i ≡ i = omega arith in
    rw (z, ← a) e

-- every record of the block passes
Pass : List ℕ → ℕ → Type 0
Pass s base = (i : ℕ) → i < records s → rule_at s base i ≡ Ok tt

pass_all : (s : List ℕ) (base : ℕ) → Closed s → Pass s base → (d i : ℕ) → NodeIn i (length s) → Shallow s d i → schema_rule s base d i ≡ Ok tt
unfolding Pass Closed Shallow schema_rule ◌then◌
pass_all s base c p zero i l h = absurd h
pass_all s base c p (suc d) i l h =
    rw (p i (omega arith))
    (in_order_all (schema_rule s base d) (node_at s i).first (node_at s i).children (λ k b. pass_all s base c p d ((node_at s i).first + k) (omega (arith, c i l)) (h k b)))

-- a block of few records whose records pass in level order passes in preorder
pub level_passes : (table : List ℕ) (first n : ℕ) → SoundBlock table first n → n ≤ 64 → (s : List ℕ) → s ≡ block table first n → (r : Result ⊤ Refusal) → r ≡ in_order (rule_at s first) 0 (records s) → r ≡ Ok tt → Ok tt ≡ block_rule table first n
unfolding block_rule Pass depth_of
level_passes table first n h l s e r is a =
    sym (pass_all (block table first n) first (closed _ h.order) pass 64 0 (omega (arith, h.order.size)) (deep_shallow _ [] (block_denotes _ [] h.order) 64 (omega (arith, few))))
  where
    few : depth_of (block table first n) ≤ 64
    few = omega (arith, depth_records _ h.order, block_length table first n h.within)

    pass : (i : ℕ) → i < records (block table first n) → rule_at (block table first n) first i ≡ Ok tt
    pass i b =
        let z : 0 + i ≡ i = omega arith in
        rw z at (in_order_each (rule_at (block table first n) first) 0 (records (block table first n)) i (rw e at (sym is ∙ a)) b)
