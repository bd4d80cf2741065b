-- The loop over a node's children: what is left of them comes to the whole.
-- Assumes nothing.
use Rattle.std.proofs.Common.{Result, Ok, Err}
use Prim.Native.Nat.{ℕ, suc, ◌+◌, ◌-◌, ◌^◌, ◌≤◌, ◌<◌}
use mathlib.Core.Path.{◌≡◌, ap, ◌∙◌}
use mathlib.Core.List.{List}
use native.Mathlib.Omega.{arith}
use lib.ListN.{length}
use Rattle.rules.specs.Block.{node_start, node_at}
use Rattle.rules.specs.declared.refusal.Refusal.{Refusal}
use Rattle.leaves.specs.Shapes.{shape_of}
use Rattle.leaves.specs.Leaf.{◌>>=◌}
use Rattle.leaves.specs.declared.leaf.SkipPos.{SkipPos}
use Rattle.read.specs.Children.{picked}
use Rattle.read.specs.Skim.{skim_node, skim}
use Rattle.read.specs.Ready.{HasNode, SoundNodes, Coded, Ready}
use Rattle.read.specs.declared.walk.Next.{Next}
use Rattle.read.proofs.Turn.{steps, go_on, moved, Fuelled, fuel_all, fuel_next, turn_child, turn_end, turn_refused, turn_on, Moved, wide_shape, picked_child}
use Rattle.read.proofs.Onward.{skim_at}
use Rattle.read.proofs.Nodes.{node_children, node_start_lem}

-- after j children, at q: what is left of them, from here, comes to what the node comes to from p
pub record Going (sch inp : List ℕ) (charge d i code first count : ℕ) (p : SkipPos) (j : ℕ) (q : SkipPos) : Type 0 where
  pub counted : j ≤ count + q.at
  pub ready : Ready inp charge q
  pub enough : ℕ
  pub fuel : Fuelled (shape_of code) (length inp - q.at) enough
  pub rest : steps inp (skim sch inp charge (d - 1)) code first count (shape_of code) j enough q ≡ skim_node sch inp (skim sch inp charge (d - 1)) i p

-- from what the loop's function requires, and the code reads of the node
module _ (sch inp : List ℕ) (charge d i code first count : ℕ) (p : SkipPos) (k : (0 < d) × Coded sch i code × (14 < code) × Ready inp charge p) (a : first ≡ (node_at sch i).first) (b : count ≡ (node_at sch i).children) where
  pub going_first : Going sch inp charge d i code first count p 0 p
  going_first = record {
    counted = omega arith;
    ready = k.3;
    enough = suc (length inp - p.at);
    fuel = fuel_all _ _;
    rest = node_start_lem sch i code first count k.1 a b inp _ p k.2;
  }

  module _ (j : ℕ) (q : SkipPos) (g : Going sch inp charge d i code first count p j q) (t : Result Next Refusal) (is : t ≡ picked code first count inp (shape_of code) j q.at) where
    -- no child, for this reason
    pub rest_refused : (r : Refusal) → t ≡ Err r → skim_node sch inp (skim sch inp charge (d - 1)) i p ≡ Err r
    rest_refused = turn_refused inp _ code first count _ j g.enough q _ g.fuel _ g.rest t is

    module _ (n : Next) (was : t ≡ Ok n) where
      -- no child, since they end
      pub rest_end : (at : ℕ) → n ≡ Next.End at → skim_node sch inp (skim sch inp charge (d - 1)) i p ≡ Ok (moved q at)
      rest_end at end = turn_end inp _ code first count _ j g.enough q _ g.fuel _ g.rest t is at (was ∙ ap Ok end)

      -- a child, and what follows it
      module _ (e at : ℕ) (child : n ≡ Next.Child e at) where
        pub rest_child : skim_node sch inp (skim sch inp charge (d - 1)) i p ≡ skim sch inp charge (d - 1) e (moved q at) >>= go_on inp (skim sch inp charge (d - 1)) code first count (shape_of code) j (g.enough - 1)
        rest_child = turn_child inp _ code first count _ j g.enough q _ g.fuel _ g.rest t is e at (was ∙ ap Ok child)

        child_moved : Moved (shape_of code) (length inp) first count j q.at e at
        child_moved = picked_child inp code first count j q.at g.ready.stands.within g.counted _ (wide_shape code k.2) t e at is (was ∙ ap Ok child)

        child_ready : Ready inp charge (moved q at)
        child_ready = record {
          stands = record { within = child_moved.within; short = g.ready.stands.short; passed = omega (arith, child_moved.from, g.ready.stands.passed) };
          costs = g.ready.costs;
          total = g.ready.total;
        }

        pub child_asked : SoundNodes sch × HasNode sch e × Ready inp charge (moved q at)
        child_asked = (k.1.sound, omega (arith, node_children sch i code first count k.1 a b, child_moved.high), child_ready)

        -- there are no more children than that
        pub child_counted : (j + 1 ≤ count + length inp) × (length inp < 2 ^ 32) × (node_start (first + count) ≤ length sch)
        child_counted = (omega (arith, child_moved.counts, child_moved.within), g.ready.stands.short, node_children sch i code first count k.1 a b)

        module _ (x : Result SkipPos Refusal) (y : x ≡ skim sch inp charge (d - 1) e (moved q at)) (r : SkipPos) (z : x ≡ Ok r) where
          child_left : (at ≤ r.at) × Ready inp charge r
          child_left = skim_at sch inp charge (d - 1) e (moved q at) r x y z child_ready

          pub child_smaller : count - (j + 1) + (length inp - r.at) < count - j + (length inp - q.at)
          child_smaller = omega (arith, child_moved.falls, child_moved.within, child_left)

          pub child_next : 17 ≤ code → Going sch inp charge d i code first count p (j + 1) r
          child_next h = record {
            counted = omega (arith, child_moved.counts, child_left.0);
            ready = child_left.1;
            enough = g.enough - 1;
            fuel = fuel_next _ _ _ _ _ _ g.fuel child_moved.past child_left.0 child_left.1.stands.within;
            rest = turn_on inp _ code first count j g.enough q _ g.fuel _ g.rest t is e at (was ∙ ap Ok child) x y r z h;
          }
