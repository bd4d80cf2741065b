use Rattle.std.proofs.Common.{rules}
use Rattle.std.proofs.lemmas.Iterator.{serves_from_Range}
use Rattle.rules.specs.Block.{node_name, is_name_utf8, names_utf8}
use Rattle.block.proofs.Turns.{all_in_range}
use Rattle.block.proofs.Spans.{node_name_inside, name_at}
use Rattle.block.proofs.names.names_utf8.Goals as goal

pub all-requires-clause-callable : goal.all-requires-clause-callable
all-requires-clause-callable c = serves_from_Range (λ x q k. search rules) (λ x l h. search (rules, node_name_inside c.args.s.now _ c.requires x h))

pub returns : goal.returns
unfolding names_utf8
returns c = all_in_range (λ i. is_name_utf8 (node_name c.args.s.now c.args.names.now i)) _ _ _ _ c.all.ensures.ran (λ x b q k. search (rules, name_at))
