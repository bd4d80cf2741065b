use Rattle.std.proofs.lemmas.Result.{err_from_is_err_and}
use mathlib.Core.Path.{sym, ◌∙◌}
use Rattle.read.proofs.Root.{root_dear, root_paid, root_ready}
use native.Mathlib.Omega.{arith}
use Rattle.read.proofs.walk.skip_root.Goals as goal

pub returns-in_err-rest : goal.returns-in_err-rest
returns-in_err-rest c =
    let p = err_from_is_err_and c.from_residual.result c.from_residual.ensures.1 in
    rw (p.1, p.2) (root_dear _ _ _ _ _ c.new-budget.ensures _ c.charge.ensures _ c.in_err-rest.was)

pub skip_children-requires : goal.skip_children-requires
skip_children-requires c = let k = c.requires in
    (omega arith, record { sound = k.sound; inside = k.root; is = c.node_code.ensures }, rw c.node_code.ensures k.compound, root_ready _ _ _ _ _ c.new-budget.ensures _ c.charge.ensures _ c.in_ok-rest.was k)

pub returns-in_err-q : goal.returns-in_err-q
returns-in_err-q c =
    let p = err_from_is_err_and c.from_residual-in_err-q.result c.from_residual-in_err-q.ensures.1 in
    rw (p.1, p.2, ← c.in_err-q.was) (c.skip_children.ensures ∙ root_paid _ _ _ _ _ c.new-budget.ensures _ c.charge.ensures _ c.in_ok-rest.was)

pub returns : goal.returns
returns c = sym c.in_ok-q.was ∙ c.skip_children.ensures ∙ root_paid _ _ _ _ _ c.new-budget.ensures _ c.charge.ensures _ c.in_ok-rest.was
