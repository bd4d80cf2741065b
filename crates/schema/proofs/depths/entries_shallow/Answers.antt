use Rattle.std.proofs.Common.{rules}
use mathlib.Core.List.{[]}
use Rattle.rules.specs.Format.{entry_depth_ok}
use Rattle.block.proofs.Turns.{all_in_range}
use Rattle.schema.specs.Slices.{slices}
use Rattle.schema.proofs.Given.{entry_shallow}
use Rattle.schema.proofs.depths.entries_shallow.Goals as goal

pub returns : goal.returns
returns c = all_in_range (entry_depth_ok (slices c.args.table.now [] [] c.args.registry.now)) _ _ _ _ c.all.ensures.ran (λ j b q k. search (rules, entry_shallow))
