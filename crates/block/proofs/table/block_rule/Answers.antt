use native.Mathlib.Omega.{arith}
use Rattle.rules.specs.Format.{block_rule}
use Rattle.block.proofs.Parts.{sound_walks}
use Rattle.block.proofs.Level.{level_passes}
use Rattle.block.proofs.table.block_rule.Goals as goal

pub validate-requires : goal.validate-requires
validate-requires c = sound_walks _ _ _ c.requires (omega arith) _ c.block_of-s.ensures

pub returns-then-count-gt64 : goal.returns-then-count-gt64
unfolding block_rule
returns-then-count-gt64 c = rw (← c.block_of-s.ensures) c.validate.ensures

pub level_rule-level-requires : goal.level_rule-level-requires
level_rule-level-requires c = (sound_walks _ _ _ c.requires (omega arith) _ c.block_of-s.ensures).2

pub validate-requires-in_default : goal.validate-requires-in_default
validate-requires-in_default c = sound_walks _ _ _ c.requires (omega arith) _ c.block_of-s.ensures

pub returns-in_default : goal.returns-in_default
unfolding block_rule
returns-in_default c = rw (← c.block_of-s.ensures) c.validate-in_default.ensures

pub returns : goal.returns
returns c = level_passes _ _ _ c.requires c.if-count-gt64.false _ c.block_of-s.ensures _ c.level_rule-level.ensures c.in-Ok.is
