use Rattle.std.proofs.lemmas.Result.{err_from_is_err_and}
use Rattle.rules.specs.Refusals.{◌then◌}
use Rattle.rules.specs.Format.{encoder_rules}
use Rattle.block.proofs.Stands.{one_then, one_sound}
use Rattle.schema.proofs.encoder_rules.Goals as goal

pub returns-in_err-block_stands : goal.returns-in_err-block_stands
unfolding encoder_rules ◌then◌
returns-in_err-block_stands c =
    let p = err_from_is_err_and c.from_residual.result c.from_residual.ensures.1 in
    rw (p.1, p.2, one_then, ← c.block_stands.ensures, c.in_err-block_stands.was)

pub block_rule-requires : goal.block_rule-requires
block_rule-requires c = one_sound _ _ _ _ _ c.block_stands.ensures c.in_ok-block_stands.was

pub returns-in_err-block_rule : goal.returns-in_err-block_rule
unfolding encoder_rules ◌then◌
returns-in_err-block_rule c =
    let p = err_from_is_err_and c.from_residual-in_err-block_rule.result c.from_residual-in_err-block_rule.ensures.1 in
    rw (p.1, p.2, one_then, ← c.block_stands.ensures, c.in_ok-block_stands.was, ← c.block_rule.ensures, c.in_err-block_rule.was)

pub block_root-requires : goal.block_root-requires
block_root-requires c = one_sound _ _ _ _ _ c.block_stands.ensures c.in_ok-block_stands.was

pub returns : goal.returns
unfolding encoder_rules ◌then◌
returns c = rw (one_then, ← c.block_stands.ensures, c.in_ok-block_stands.was, ← c.block_rule.ensures, c.in_ok-block_rule.was) c.block_root.ensures
