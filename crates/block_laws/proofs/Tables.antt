-- What an accepted format gives the reader: each table has a schema that stands in a good block.
-- Assumes nothing.
use Rattle.std.proofs.Common.{Ok}
use Prim.Native.Nat.{ℕ, ◌<◌}
use mathlib.Core.Path.{◌≡◌}
use borrow.Author.Tests.{lt-ltb}
use Rattle.rules.specs.Choice.{pick}
use Rattle.rules.specs.Block.{block, block_tree}
use Rattle.rules.specs.Format.{Format, reference_at, tables, table_schema, format_rules}
use Rattle.rules.specs.Reading.{schema_in, schema_of}
use Rattle.rules.specs.Good.{TableSchema}
use Rattle.rules.specs.declared.table_record.Located.TheVariants.{Block}
use Rattle.block_laws.proofs.Form.{closed}
use Rattle.block_laws.proofs.Levels.{block_denotes}
use Rattle.block_laws.proofs.Good.{tree_within}
use Rattle.block_laws.proofs.Formats.{placed, rules_accept}

module _ (f : Format) where
  -- Of a format that is accepted each table has such a schema.
  pub table_schema_lem : format_rules f ≡ Ok tt → (t : ℕ) → t < tables f → TableSchema f t
  unfolding schema_of schema_in table_schema pick
  table_schema_lem e t h =
      let g = (rules_accept f).0 e in
      let p = placed f g.entries g.ascends (reference_at f.references t) (g.references t h) in
      let s = block f.table p.first p.count in
      let o = p.good.formed.order in
      let stands : table_schema f t ≡ Block p.first p.count = rw (lt-ltb t (tables f) h) p.is in
      let is : schema_of f t ≡ block_tree s f.names = rw stands (tree_within s f.names o p.good.depth) in
      record {
        first = p.first;
        count = p.count;
        stands = stands;
        good = p.good;
        is = is;
        root = rw is p.root;
        denotes = rw is (block_denotes s f.names o);
        valid = rw is p.good.valid;
        depth = rw is p.good.depth;
        closed = closed s o;
      }
