-- A node, one level at a time.
-- Assumes nothing.
use Rattle.std.proofs.Common.{Result, Ok, Err}
use Prim.Native.Nat.{ℕ, suc, ◌+◌, ◌-◌, ◌≤◌, ◌<◌}
use mathlib.Core.Path.{◌≡◌, refl, ◌∙◌}
use mathlib.Core.Bool.{Bool, true, false}
use mathlib.Core.List.{List}
use native.Mathlib.Omega.{arith}
use native.Mathlib.Nat.{add-zero}
use borrow.Author.Tests.{lt-leb, le-leb, ltb-true, ltb-false}
use lib.Dec.{ltb, leb}
use lib.ListN.{length}
use Rattle.rules.specs.Choice.{pick, ◌and◌, all}
use Rattle.rules.specs.Wire.{Form, empty, truth, fixed, raw, sized, variant_form, repeated_form, tuple_form, unknown, wire_types, type_in, type_of, written, written_if, form, width_of}
use Rattle.rules.specs.Block.{node_start, node_at, Closed, Formed}
use Rattle.rules.specs.declared.refusal.Refusal.{Refusal}
use Rattle.rules.specs.Refusals.{TooDeep, Truncated}
use Rattle.rules.proofs.Tests.{all_each}
use Rattle.block_laws.proofs.Form as blocks
use Rattle.leaves.specs.Budget.{spent}
use Rattle.leaves.specs.Fields.{payload_of_fixed}
use Rattle.leaves.specs.Shapes.{shape_of}
use Rattle.leaves.specs.Leaf.{standing, ◌>>=◌, bytes_past, stored, having, skim_charge, skim_bytes, skim_fixed, skim_leaf}
use Rattle.read.specs.Skim.{counted, Skimmer, skim_form, skim_node, skim}
use Rattle.read.specs.Ready.{SoundNodes, Coded}
use Rattle.leaves.specs.declared.budget.RowBudget.{RowBudget}
use Rattle.leaves.specs.declared.leaf.SkipPos.{SkipPos}
use Rattle.leaves.proofs.Codes.{form_sized}
use Rattle.read.proofs.Turn.{steps, steps_all}

-- ---- a leaf

-- a form of a fixed width, whose payload is what a record does not hold
unfoldable plain : Form → Bool
plain empty = true
plain truth = true
plain (fixed w) = leb w 8
plain (raw w) = ltb 8 w
plain sized = false
plain (variant_form w) = false
plain (repeated_form w) = false
plain tuple_form = false
plain unknown = false

-- no payload bytes more are none
unstored : (inp : List ℕ) (w context : ℕ) (p : SkipPos) → bytes_past inp w context p ≡ skim_bytes inp w context 0 p
unfolding skim_bytes bytes_past stored pick ◌>>=◌
unstored inp w context p = go (leb w (length inp - p.at))
  where
    go : (b : Bool) → pick b (Ok (standing (p.at + w) p.budget p.records p.payload)) (Err (Truncated context p.at))
        ≡ pick b (Ok (standing (p.at + w) p.budget p.records p.payload)) (Err (Truncated context p.at)) >>= (λ q. (Ok (stored 0 q)))
    go true = rw (add-zero p.payload)
    go false = refl

-- no bytes more are none
none_past : (inp : List ℕ) (context : ℕ) (p : SkipPos) → Ok p ≡ bytes_past inp 0 context p
unfolding bytes_past pick
none_past inp context p = rw (le-leb 0 (length inp - p.at) (omega arith), add-zero p.at)

module _ (inp : List ℕ) (rec : Skimmer) (code first count : ℕ) (p : SkipPos) where
  plain_value : (f : Form) → plain f ≡ true → skim_form inp rec code first count f p ≡ skim_bytes inp (width_of f) code (payload_of_fixed (width_of f)) p
  unfolding plain skim_form width_of payload_of_fixed pick
  plain_value empty e = none_past inp code p ∙ unstored inp 0 code p
  plain_value truth e = unstored inp 1 code p
  plain_value (fixed w) e = rw e (unstored inp w code p)
  plain_value (raw w) e = rw (lt-leb w 8 (ltb-true 8 w e))
  plain_value sized e = cc
  plain_value (variant_form w) e = cc
  plain_value (repeated_form w) e = cc
  plain_value tuple_form e = cc
  plain_value unknown e = cc

  plain_codes : all (λ k. plain (form k)) 13 ≡ true
  unfolding all ◌and◌ plain wire_types type_in type_of written written_if form
  plain_codes = refl

  value_leaf : code < 15 → skim_form inp rec code first count (form code) p ≡ skim_leaf inp code p
  unfolding skim_leaf skim_fixed pick skim_form
  value_leaf h = by (ltb code 13) refl
    where
      by : (b : Bool) → ltb code 13 ≡ b → skim_form inp rec code first count (form code) p ≡ skim_leaf inp code p
      by true e = rw e (plain_value (form code) (all_each (λ k. plain (form k)) 13 code plain_codes (ltb-true code 13 e)))
      by false e = rw (form_sized code (ltb-false code 13 e) h, e)

-- ---- a node

module _ (sch inp : List ℕ) (charge d i : ℕ) (p : SkipPos) where
  pub skim_none : d ≡ 0 → skim sch inp charge d i p ≡ Err TooDeep
  unfolding skim
  skim_none e = rw e

  module _ (h : d ≡ 0 → ⊥) (c : Result RowBudget Refusal) (is : c ≡ spent p.budget charge p.at) where
    step : skim sch inp charge d i p ≡ having p c >>= (λ q. skim_node sch inp (skim sch inp charge (d - 1)) i (counted q))
    unfolding skim skim_charge
    step = rw is (at_suc (d - 1) (omega arith))
      where
        at_suc : (e : ℕ) → d ≡ suc e → skim sch inp charge d i p ≡ having p (spent p.budget charge p.at) >>= (λ q. skim_node sch inp (skim sch inp charge e) i (counted q))
        at_suc e q = rw q

    -- one that cannot be paid, and one that can
    pub skim_dear : (r : Refusal) → c ≡ Err r → skim sch inp charge d i p ≡ Err r
    unfolding having ◌>>=◌
    skim_dear r e = step ∙ rw e

    pub skim_paid : (b : RowBudget) → c ≡ Ok b → skim sch inp charge d i p ≡ skim_node sch inp (skim sch inp charge (d - 1)) i (standing p.at b (p.records + 1) p.payload)
    unfolding having ◌>>=◌ counted
    skim_paid b e = step ∙ rw e

pub node_leaf : (sch inp : List ℕ) (rec : Skimmer) (i : ℕ) (p : SkipPos) (code : ℕ) → code ≡ (node_at sch i).code → code < 15 → skim_node sch inp rec i p ≡ skim_leaf inp code p
unfolding skim_node
node_leaf sch inp rec i p code e h = rw (← e) (value_leaf inp rec code _ _ p h)

-- ---- blocks

-- the form of a block is enough
pub formed_sound : (s : List ℕ) (store : ℕ) → Formed s store → SoundNodes s
formed_sound s store f = record { codes = λ i h. f.codes i (omega arith); closed = blocks.closed s f.order }

-- a node with children, its record in the code's numbers
module _ (s : List ℕ) (i code first count : ℕ) (k : Coded s i code) (a : first ≡ (node_at s i).first) (b : count ≡ (node_at s i).children) where
  pub node_code : code ≤ 19
  node_code = rw k.is (k.sound.codes i k.inside)

  -- its children lie in the block
  pub node_children : node_start (first + count) ≤ length s
  unfolding Closed
  node_children = omega (arith, a, b, k.sound.closed i k.inside)

  -- the loop starts with the whole
  pub node_start_lem : (inp : List ℕ) (rec : Skimmer) (p : SkipPos) → 14 < code → steps inp rec code first count (shape_of code) 0 (suc (length inp - p.at)) p ≡ skim_node s inp rec i p
  unfolding skim_node
  node_start_lem inp rec p l = rw (← k.is, ← a, ← b) (steps_all inp rec code first count p l node_code)
