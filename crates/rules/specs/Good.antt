-- What the checks of schemas and formats accept, as facts: good blocks, good schemas, good formats, and the schema that each table then has.
-- Assumes nothing: these are definitions.
use Rattle.std.specs.declared.cmp.Ordering.{Ordering}
use Rattle.std.specs.Prelude.{ℕ, ◌+◌, ◌%◌, ◌≤◌, ◌<◌, ◌≡◌, List, ◌⊎◌, length}
use Rattle.rules.specs.Bytes.{part, order, longest_slice}
use Rattle.rules.specs.Utf8.{Utf8}
use Rattle.rules.specs.Schema.{Schema, deep, Valid, TableRoot}
use Rattle.rules.specs.Block.{node_size, records, block, Formed, NamesUtf8, block_tree, Denotes, Closed}
use Rattle.rules.specs.Format.{reference_size, entry_size, entry_count, Format, reference_at, entry_at, entry_name, tables, table_schema}
use Rattle.rules.specs.Reading.{schema_of}
use Rattle.rules.specs.declared.table_record.Reference.{Reference}
use Rattle.rules.specs.declared.table_record.Located.TheVariants.{Block}

-- ---- one block, given by first record and record count

-- A good block lies in the record table, has the form of a schema, is at most 64 deep, its names are well-formed UTF-8, and its schema
-- keeps the rules.
pub record GoodBlock (table names : List ℕ) (first n : ℕ) : Type 0 where
  pub inside : first + n ≤ records table
  pub formed : Formed (block table first n) (length names)
  pub depth : deep (block_tree (block table first n) names) ≤ 64
  pub utf8 : NamesUtf8 (block table first n) names
  pub valid : Valid (block_tree (block table first n) names)

-- Slices that are not too long, a table of whole records, and a good block in it.
pub record GoodSchema (table names : List ℕ) (first n : ℕ) : Type 0 where
  pub table_size : length table ≤ longest_slice
  pub names_size : length names ≤ longest_slice
  pub whole : length table % node_size ≡ 0
  pub good : GoodBlock table names first n

-- The encoder wants besides that the schema's root is a tuple whose children have non-empty names.
pub record GoodTable (table names : List ℕ) (first n : ℕ) : Type 0 where
  pub schema : GoodSchema table names first n
  pub root : TableRoot (block_tree (block table first n) names)

-- ---- a format

-- Strictly ascending by bytes: each of n names is less than the one after it.
abbrev pub Ascending : (ℕ → List ℕ) → ℕ → Type 0
Ascending name n = (j : ℕ) → j + 1 < n → order (name j) (name (j + 1)) ≡ Ordering.Less

module _ (f : Format) where
  -- The schema that n records from record `first` on denote, with the names of the format's store.
  abbrev pub schema_from : ℕ → ℕ → Schema
  schema_from first n = block_tree (block f.table first n) f.names

  -- A registry entry: its name lies in the store and is well-formed UTF-8, and its block is good.
  pub record GoodEntry (j : ℕ) : Type 0 where
    pub name : (entry_at f.registry j).start + (entry_at f.registry j).len ≤ length f.names
    pub utf8 : Utf8 (entry_name f.names f.registry j)
    pub good : GoodBlock f.table f.names (entry_at f.registry j).first (entry_at f.registry j).count

  -- An inline reference: kind 0, and a good block that is fit for a table.
  pub record Inline (r : Reference) : Type 0 where
    pub kind : r.kind ≡ 0
    pub good : GoodBlock f.table f.names r.start r.len
    pub root : TableRoot (schema_from r.start r.len)

  -- A reference by name: kind 1, a name that lies in the store and that an entry of the registry has (so that it is UTF-8, as that is),
  -- whose schema is fit for a table.
  pub record ByName (r : Reference) : Type 0 where
    pub kind : r.kind ≡ 1
    pub name : r.start + r.len ≤ length f.names
    pub entry : ℕ
    pub below : entry < entry_count f.registry
    pub same : entry_name f.names f.registry entry ≡ part f.names r.start r.len
    pub root : TableRoot (schema_from (entry_at f.registry entry).first (entry_at f.registry entry).count)

  -- A table reference: the bytes that have to be 0 are, and it is of one of the two kinds.
  pub record GoodReference (r : Reference) : Type 0 where
    pub spare : r.spare ≡ 0
    pub rest : r.rest ≡ 0
    pub either : Inline r ⊎ ByName r

  -- Whole records in table, references and registry; at least one table; good entries, their names strictly ascending; good references.
  pub record GoodTables : Type 0 where
    pub whole_table : length f.table % node_size ≡ 0
    pub whole_references : length f.references % reference_size ≡ 0
    pub whole_registry : length f.registry % entry_size ≡ 0
    pub some : 0 < tables f
    pub entries : (j : ℕ) → j < entry_count f.registry → GoodEntry j
    pub ascends : Ascending (entry_name f.names f.registry) (entry_count f.registry)
    pub references : (t : ℕ) → t < tables f → GoodReference (reference_at f.references t)

  -- Besides, each of the four slices has at most 4,294,967,295 bytes.
  pub record GoodFormat : Type 0 where
    pub table_size : length f.table ≤ longest_slice
    pub names_size : length f.names ≤ longest_slice
    pub references_size : length f.references ≤ longest_slice
    pub registry_size : length f.registry ≤ longest_slice
    pub good : GoodTables

  -- ---- what a table of it has

  -- A table's schema: it stands in a good block, which it is the tree of; its root is fit for a table; it is valid and at most 64 deep;
  -- and no record's children lie outside the block.
  pub record TableSchema (t : ℕ) : Type 0 where
    pub first : ℕ
    pub count : ℕ
    pub stands : table_schema f t ≡ Block first count
    pub good : GoodBlock f.table f.names first count
    pub is : schema_of f t ≡ schema_from first count
    pub root : TableRoot (schema_of f t)
    pub denotes : Denotes (block f.table first count) f.names 0 (schema_of f t)
    pub valid : Valid (schema_of f t)
    pub depth : deep (schema_of f t) ≤ 64
    pub closed : Closed (block f.table first count)
