use Rattle.read.proofs.Leads.{leads_self, leads_on, leads_child}
use Rattle.read.proofs.Nodes.{node_children}
use native.Mathlib.Omega.{arith}
use mathlib.Core.Path.{sym, ◌∙◌}
use Rattle.rules.proofs.Checks.{value_in}
use Rattle.read.proofs.walk.leaf_at.Goals as goal

pub returns-then-code-lt15 : goal.returns-then-code-lt15
returns-then-code-lt15 c = leads_self _ _ _ _ _ c.requires.0 _ _ c.requires.1 c.if-code-lt15.true

pub returns-then-code-gt16 : goal.returns-then-code-gt16
returns-then-code-gt16 c = leads_on _ _ _ _ _ c.requires.0 _ c.if-code-lt15.false

pub returns-then-depth-lt2 : goal.returns-then-depth-lt2
returns-then-depth-lt2 c = leads_on _ _ _ _ _ c.requires.0 _ c.if-code-lt15.false

pub returns-in_err-tag : goal.returns-in_err-tag
returns-in_err-tag c = rw c.from_residual.ensures (leads_on _ _ _ _ _ c.requires.0 _ c.if-code-lt15.false)

pub returns-then-count-tag : goal.returns-then-count-tag
returns-then-count-tag c = leads_on _ _ _ _ _ c.requires.0 _ c.if-code-lt15.false

pub overflow_add-child : goal.overflow_add-child
overflow_add-child c = let k = node_children _ _ _ _ _ c.requires.0 c.node_first-first.ensures c.node_children-count.ensures in omega (arith, k, c.if-count-tag.false)

pub node_code-below-requires : goal.node_code-below-requires
node_code-below-requires c = let k = node_children _ _ _ _ _ c.requires.0 c.node_first-first.ensures c.node_children-count.ensures in omega (arith, k, c.if-count-tag.false)

pub returns-then-below-gt14 : goal.returns-then-below-gt14
returns-then-below-gt14 c = leads_on _ _ _ _ _ c.requires.0 _ c.if-code-lt15.false

pub returns-in_err-rest : goal.returns-in_err-rest
returns-in_err-rest c = rw c.from_residual-in_err-rest.ensures (leads_on _ _ _ _ _ c.requires.0 _ c.if-code-lt15.false)

pub returns : goal.returns
returns c = leads_child _ _ _ _ _ _ c.requires.0 _ c.requires.1 _ _ c.node_first-first.ensures c.node_children-count.ensures c.if-code-lt15.false (omega (arith, c.if-code-gt16.false)) (λ z. omega (arith, z, c.if-depth-lt2.false)) _ c.read_tag.ensures _ _ (value_in _ _ (sym c.ok.ensures.value ∙ c.in_ok-tag.was)) c.if-count-tag.false _ c.node_code-below.ensures (omega (arith, c.if-below-gt14.false)) _ c.charge.ensures _ (value_in _ _ (sym c.ok-2.ensures.value ∙ c.in_ok-rest.was))
