use Rattle.std.proofs.Common.{rules}
use mathlib.Core.List.{[]}
use Rattle.rules.specs.Format.{reference_depth_ok}
use Rattle.block.proofs.Turns.{all_in_range}
use Rattle.schema.specs.Slices.{slices}
use Rattle.schema.proofs.Given.{reference_deep}
use Rattle.schema.proofs.depths.references_shallow.Goals as goal

pub returns : goal.returns
returns c = all_in_range (reference_depth_ok (slices c.args.table.now [] c.args.references.now [])) _ _ _ _ c.all.ensures.ran (λ t b q k. search (rules, reference_deep))
