use Rattle.std.proofs.lemmas.Result.{err_from_is_err_and}
use mathlib.Core.Path.{sym, ◌∙◌}
use Rattle.block.specs.Sound.{SoundBlock}
use Rattle.schema.proofs.Tables.{resolved_in, rule_inline, rule_root}
use Rattle.schema.proofs.order.reference_rule.Goals as goal

pub returns-in_err-inline_rule : goal.returns-in_err-inline_rule
returns-in_err-inline_rule c =
    let p = err_from_is_err_and c.from_residual.result c.from_residual.ensures.1 in
    rw (p.1, p.2, ← c.in_err-inline_rule.was, ← c.format.view_is) (rule_inline _ _ _ _ _ _ c.reference_at-r.ensures _ c.inline_rule.ensures c.in_err-inline_rule.was)

pub root_of-requires : goal.root_of-requires
root_of-requires c = let h = rw (← c.format.view_is) at c.requires in
    λ first n e. resolved_in _ _ _ (λ a b. SoundBlock c.format.inside.table.now a b) h.0.entries (rw c.reference_at-r.ensures (h.0.inline _ h.1)) first n (sym c.resolve.ensures ∙ e)

pub returns : goal.returns
returns c = rw (← c.format.view_is) (rule_root _ _ _ _ _ _ c.reference_at-r.ensures _ c.inline_rule.ensures c.in_ok-inline_rule.was _ c.resolve.ensures _ c.root_of.ensures)
