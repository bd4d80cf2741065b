use Rattle.std.proofs.lemmas.Result.{err_from_is_err_and}
use native.Mathlib.Omega.{arith}
use Rattle.rules.specs.Choice.{pick, ◌and◌}
use Rattle.rules.specs.Refusals.{◌then◌}
use Rattle.rules.specs.Format.{schema_answer}
use Rattle.block.proofs.Stands.{one_then, one_sound}
use Rattle.schema.proofs.check_schema.Goals as goal

pub returns-then-table-gt-LONGEST : goal.returns-then-table-gt-LONGEST
unfolding schema_answer pick ◌and◌
returns-then-table-gt-LONGEST c = grind arith

pub returns-in_err-block_stands : goal.returns-in_err-block_stands
unfolding schema_answer pick ◌and◌ ◌then◌
returns-in_err-block_stands c =
    let p = err_from_is_err_and c.from_residual.result c.from_residual.ensures.1 in
    rw (p.1, p.2, one_then, ← c.block_stands.ensures, c.in_err-block_stands.was) (grind arith)

pub block_rule-requires : goal.block_rule-requires
block_rule-requires c = one_sound _ _ _ _ _ c.block_stands.ensures c.in_ok-block_stands.was

pub returns : goal.returns
unfolding schema_answer pick ◌and◌ ◌then◌
returns c = rw (one_then, ← c.block_stands.ensures, c.in_ok-block_stands.was) (grind arith)
