use Rattle.std.proofs.lemmas.Result.{err_from_is_err_and}
use mathlib.Core.Path.{◌≡◌, sym, ◌∙◌}
use Rattle.rules.specs.Format.{reference_count}
use Rattle.rules.proofs.Checks.{in_order_end}
use Rattle.block.proofs.Turns.{turn_on, turn_off}
use Rattle.schema.proofs.Tables.{table_turn}
use Rattle.schema.proofs.order.references_rule.Goals as goal

pub returns-in_err-reference_rule : goal.returns-in_err-reference_rule
returns-in_err-reference_rule c =
    let m : reference_count c.args.format.now.references ≡ reference_count c.format.inside.references.now = rw (← c.format.view_is) in
    let p = err_from_is_err_and c.from_residual.result c.from_residual.ensures.1 in
    rw (p.1, p.2, ← c.in_err-reference_rule.was, m) (turn_off _ _ _ _ c.loop-t-test.true _ (table_turn _ _ _ c.reference_rule.ensures) c.in_err-reference_rule.was ∙ c.loop-t.invariant)

pub loop-t-preserved : goal.loop-t-preserved
loop-t-preserved c = turn_on _ _ _ _ c.loop-t-test.true _ (table_turn _ _ _ c.reference_rule.ensures) c.in_ok-reference_rule.was ∙ c.loop-t.invariant

pub returns : goal.returns
returns c = let m : reference_count c.args.format.now.references ≡ reference_count c.format.inside.references.now = rw (← c.format.view_is) in
    rw m (sym (in_order_end _ _ _ _ c.loop-t-test.false) ∙ c.loop-t.invariant)
