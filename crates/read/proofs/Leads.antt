-- What a node comes to at once: its own bytes, or those of the leaf that its tag names.
-- Assumes nothing.
use Rattle.rules.specs.declared.refusal.Refusal.{Refusal}
use Rattle.std.proofs.Common.{Result, Option, Ok, Some, None}
use Prim.Native.Nat.{ℕ, ◌+◌, ◌-◌, ◌≤◌, ◌<◌}
use mathlib.Core.Path.{◌≡◌, sym, subst, ◌∙◌}
use mathlib.Core.List.{List}
use native.Mathlib.Omega.{arith}
use borrow.Author.Tests.{lt-ltb}
use Rattle.rules.specs.Choice.{pick}
use Rattle.rules.specs.Wire.{form, width_of}
use Rattle.rules.specs.Block.{node_at}
use Rattle.leaves.specs.Budget.{spent}
use Rattle.leaves.specs.Fields.{read_number_at}
use Rattle.leaves.specs.Leaf.{standing, reading, skim_leaf}
use Rattle.read.specs.Skim.{Skimmer, skim_child, skim_variant, skim_form, skim_node, skim}
use Rattle.leaves.specs.Leaf.{Readable}
use Rattle.read.specs.Ready.{Coded, Ready}
use Rattle.read.specs.Leads.{LeadsToSkip}
use Rattle.leaves.specs.declared.budget.RowBudget.{RowBudget}
use Rattle.leaves.specs.declared.leaf.SkipPos.{SkipPos}
use Rattle.leaves.proofs.Codes.{form_variant}
use Rattle.leaves.proofs.Steps.{number_past}
use Rattle.read.proofs.Turn.{moved}
use Rattle.read.proofs.Nodes.{skim_paid, node_leaf}

module _ (s inp : List ℕ) (rec : Skimmer) (i code : ℕ) (k : Coded s i code) (p : SkipPos) where
  -- a leaf is its own
  pub leads_self : (charge : ℕ) → Ready inp charge p → code < 15 → LeadsToSkip s inp rec i p (Some (code, p))
  unfolding LeadsToSkip
  leads_self charge r h = (node_leaf s inp rec i p code k.is h, r.stands)

  pub leads_on : 15 ≤ code → LeadsToSkip s inp rec i p None
  unfolding LeadsToSkip
  leads_on h = rw (← k.is) h

  -- a variant is the child that its tag names
  variant_child : (first count tag next : ℕ) → first ≡ (node_at s i).first → count ≡ (node_at s i).children → 14 < code → code < 17 →
      Ok (tag, next) ≡ read_number_at inp (width_of (form code)) (14 + width_of (form code)) p.at → tag < count → skim_node s inp rec i p ≡ rec (first + tag) (moved p next)
  unfolding skim_node skim_form skim_variant reading skim_child pick
  variant_child first count tag next a b h l e m = rw (← k.is, ← a, ← b, form_variant code h l, ← e, lt-ltb tag count m)

-- and where that one is a leaf, paid for, its bytes are all that is left
pub leads_child : (s inp : List ℕ) (charge depth i code : ℕ) (k : Coded s i code) (p : SkipPos) (r : Ready inp charge p) (first count : ℕ) → first ≡ (node_at s i).first → count ≡ (node_at s i).children → 14 < code → code < 17 → (depth ≡ 0 → ⊥) →
    (t : Result (ℕ × ℕ) Refusal) → t ≡ read_number_at inp (width_of (form code)) (14 + width_of (form code)) p.at → (tag next : ℕ) → t ≡ Ok (tag, next) → tag < count → (below : ℕ) → below ≡ (node_at s (first + tag)).code → below < 15 →
    (c : Result RowBudget Refusal) → c ≡ spent p.budget charge next → (b : RowBudget) → c ≡ Ok b →
    LeadsToSkip s inp (skim s inp charge depth) i p (Some (below, (standing next b (p.records + 1) p.payload)))
unfolding LeadsToSkip
leads_child s inp charge depth i code k p r first count a b h l d t is tag next e m below u g c y rest z =
    let o = number_past inp _ _ p.at tag next t r.stands.within is e in (
      variant_child s inp (skim s inp charge depth) i code k p first count tag next a b h l (sym e ∙ is) m
          ∙ skim_paid s inp charge depth (first + tag) (moved p next) d c y rest z
          ∙ node_leaf s inp (skim s inp charge (depth - 1)) (first + tag) _ below u g,
      record { within = o.1; short = r.stands.short; passed = omega (arith, o.0, r.stands.passed) },
    )

-- ---- what the caller learns

module _ (s inp : List ℕ) (rec : Skimmer) (i : ℕ) (p : SkipPos) (t : Option (ℕ × SkipPos)) (l : LeadsToSkip s inp rec i p t) where
  pub reached_leaf : (code : ℕ) (q : SkipPos) → t ≡ Some (code, q) → (skim_node s inp rec i p ≡ skim_leaf inp code q) × Readable inp q
  unfolding LeadsToSkip
  reached_leaf code q e = subst (λ (x : Option (ℕ × SkipPos)). LeadsToSkip s inp rec i p x) e l

  pub reached_children : t ≡ None → 14 < (node_at s i).code
  unfolding LeadsToSkip
  reached_children e = subst (λ (x : Option (ℕ × SkipPos)). LeadsToSkip s inp rec i p x) e l

-- and of a node that was paid for
module _ (sch inp : List ℕ) (charge d i : ℕ) (p : SkipPos) (h : d ≡ 0 → ⊥) (c : Result RowBudget Refusal) (is : c ≡ spent p.budget charge p.at) (b : RowBudget) (e : c ≡ Ok b) (x : Result SkipPos Refusal) where
  pub paid_children : x ≡ skim_node sch inp (skim sch inp charge (d - 1)) i (standing p.at b (p.records + 1) p.payload) → x ≡ skim sch inp charge d i p
  paid_children y = y ∙ sym (skim_paid sch inp charge d i p h c is b e)

  pub paid_leaf : (t : Option (ℕ × SkipPos)) → LeadsToSkip sch inp (skim sch inp charge (d - 1)) i (standing p.at b (p.records + 1) p.payload) t →
      (code : ℕ) (q : SkipPos) → t ≡ Some (code, q) → x ≡ skim_leaf inp code q → x ≡ skim sch inp charge d i p
  paid_leaf t l code q s y = paid_children (y ∙ sym (reached_leaf sch inp _ i _ t l code q s).0)
