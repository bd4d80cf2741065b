-- The format was accepted, so the names of its references and of its registry lie in the store.
-- Assumes nothing.
use mathlib.Core.Path.{sym, ◌∙◌}
use Rattle.schema.proofs.Accepted.{accepted_rules, accepted_forms}
use Rattle.replay.proofs.ops.located.Goals as goal

pub table_schema-at-requires : goal.table_schema-at-requires
table_schema-at-requires c = let a = c.args in
    let f = accepted_forms a.format.now.table a.format.now.names a.format.now.references a.format.now.registry (accepted_rules a.format.now.table a.format.now.names a.format.now.references a.format.now.registry (sym c.check_format-judged.ensures ∙ c.in-Ok.is)) in
    (f.entry_names, f.reference_names)
