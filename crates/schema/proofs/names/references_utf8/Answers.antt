use Rattle.std.proofs.Common.{rules}
use Rattle.std.proofs.lemmas.Iterator.{serves_from_Range}
use mathlib.Core.List.{[]}
use Rattle.rules.specs.Format.{reference_utf8}
use Rattle.block.proofs.Turns.{all_in_range}
use Rattle.schema.specs.Slices.{slices}
use Rattle.schema.proofs.Given.{reference_asked}
use Rattle.schema.proofs.Naming.{reference_names}
use Rattle.schema.proofs.names.references_utf8.Goals as goal

pub all-requires-clause-callable : goal.all-requires-clause-callable
all-requires-clause-callable c = serves_from_Range (λ t q k. search rules) (λ t l h. search (rules, reference_asked c.args.table.now c.args.names.now c.args.references.now c.requires t h))

pub returns : goal.returns
returns c = all_in_range (reference_utf8 (slices c.args.table.now c.args.names.now c.args.references.now [])) _ _ _ _ c.all.ensures.ran (λ t b q k. search (rules, reference_names))
