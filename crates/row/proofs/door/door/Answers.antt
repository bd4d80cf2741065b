use Rattle.std.proofs.lemmas.Result.{err_from_is_err_and}
use mathlib.Core.Path.{sym, ◌∙◌}
use Rattle.row.proofs.AtDoor.{door_bounds, door_beyond, door_format, door_end, door_open}
use Rattle.row.proofs.door.door.Goals as goal

-- Each return by the tests on its way.
-- Assumes nothing.

pub returns-then-not-within_bounds : goal.returns-then-not-within_bounds
returns-then-not-within_bounds c = door_bounds _ _ _ _ (sym c.within_bounds.ensures ∙ c.if-not-within_bounds.true)

pub returns-then-end-position : goal.returns-then-end-position
returns-then-end-position c = door_beyond _ _ _ _ (sym c.within_bounds.ensures ∙ c.if-not-within_bounds.false) c.if-end-position.true

pub returns-then-position-end : goal.returns-then-position-end
returns-then-position-end c = door_end _ _ _ _ (sym c.within_bounds.ensures ∙ c.if-not-within_bounds.false) c.if-end-position.false _ c.format_rules.ensures c.in_ok-format_rules.was c.if-position-end.true

pub returns-in_err-format_rules : goal.returns-in_err-format_rules
returns-in_err-format_rules c =
    let p = err_from_is_err_and c.from_residual.result c.from_residual.ensures.1 in
    rw (p.1, p.2) (door_format _ _ _ _ (sym c.within_bounds.ensures ∙ c.if-not-within_bounds.false) c.if-end-position.false _ c.format_rules.ensures _ c.in_err-format_rules.was)

pub returns : goal.returns
returns c = door_open _ _ _ _ (sym c.within_bounds.ensures ∙ c.if-not-within_bounds.false) c.if-end-position.false _ c.format_rules.ensures c.in_ok-format_rules.was c.if-position-end.false
