use Rattle.std.proofs.Common.{rules}
use Rattle.std.proofs.lemmas.Iterator.{serves_from_Range}
use mathlib.Core.List.{[]}
use Rattle.rules.specs.Format.{entry_utf8}
use Rattle.block.proofs.Turns.{all_in_range}
use Rattle.schema.specs.Slices.{slices}
use Rattle.schema.proofs.Given.{entry_named, entry_formed}
use Rattle.schema.proofs.Naming.{entry_names}
use Rattle.schema.proofs.names.entries_utf8.Goals as goal

pub all-requires-clause-callable : goal.all-requires-clause-callable
all-requires-clause-callable c = serves_from_Range (λ j q k. search rules) (λ j l h. search (rules, entry_named c.args.table.now c.args.names.now c.args.registry.now c.requires j h, entry_formed c.args.table.now c.args.names.now c.args.registry.now c.requires j h))

pub returns : goal.returns
returns c = all_in_range (entry_utf8 (slices c.args.table.now c.args.names.now [] c.args.registry.now)) _ _ _ _ c.all.ensures.ran (λ j b q k. search (rules, entry_names))
