-- A format: record table, name store, table references and registry. Its forms, its depths, its names, and the order of its refusals.
-- Assumes nothing: these are definitions.
use Rattle.rules.specs.declared.refusal.Refusal.{Refusal}
use Rattle.std.specs.Prelude.{ℕ, zero, suc, ◌+◌, ◌*◌, ◌/◌, ◌%◌, ◌≤◌, Bool, true, List, length, get_or, ltb, leb, eqb, Result, Ok, Err, ⊤}
use Rattle.rules.specs.Choice.{pick, ◌and◌, all}
use Rattle.rules.specs.Bytes.{le_at, part, order, is_less, is_equal, longest_slice}
use Rattle.rules.specs.Refusals.{◌then◌, in_order, Setting, BadSchemaTable, TooDeep, NameNotUtf8, EmptyTableSchemas, UnknownRegistryReference}
use Rattle.rules.specs.Utf8.{is_utf8}
use Rattle.rules.specs.Block.{records, whole_nodes, block, span_ok, block_ok, depth_of, names_utf8}
use Rattle.rules.specs.SchemaRules.{schema_rule, table_rule}
use Rattle.rules.specs.declared.table_record.Reference.{Reference}
use Rattle.rules.specs.declared.table_record.Entry.{Entry}
use Rattle.rules.specs.declared.table_record.Located.{Located}
use Rattle.rules.specs.declared.table_record.Located.TheVariants.{Block, NoTable, NoEntry}
use Rattle.rules.specs.declared.answer.Purpose.{Purpose}

-- the four slices
pub record Format : Type 0 where
  pub table : List ℕ
  pub names : List ℕ
  pub references : List ℕ
  pub registry : List ℕ

-- each slice that is read has at most 4,294,967,295 bytes
abbrev pub short_ok : List ℕ → Bool
short_ok s = leb (length s) longest_slice

-- ---- a block of the table, given by first record and record count

-- it lies in the table and has the form (2)
unfoldable pub block_form_ok : List ℕ → ℕ → ℕ → ℕ → Bool
block_form_ok table store first n = leb (first + n) (records table) and block_ok (block table first n) store

-- it is at most 64 deep (3)
unfoldable pub block_depth_ok : List ℕ → ℕ → ℕ → Bool
block_depth_ok table first n = leb (depth_of (block table first n)) 64

-- its names are well-formed UTF-8 (33)
unfoldable pub block_utf8 : List ℕ → List ℕ → ℕ → ℕ → Bool
block_utf8 table names first n = names_utf8 (block table first n) names

-- the rules 4 and 5
unfoldable pub block_rule : List ℕ → ℕ → ℕ → Result ⊤ Refusal
block_rule table first n = schema_rule (block table first n) first 64 0

-- ---- references and entries

-- a table reference's bytes, where reference i starts, and that it lies in so many bytes
abbrev pub reference_size : ℕ
reference_size = 16

abbrev pub reference_start : ℕ → ℕ
reference_start i = i * reference_size

abbrev pub ReferenceIn : ℕ → ℕ → Type 0
ReferenceIn i bytes = reference_start i + reference_size ≤ bytes

-- how many whole references there are, and that there are no other bytes
abbrev pub reference_count : List ℕ → ℕ
reference_count s = length s / reference_size

abbrev pub whole_references : List ℕ → Bool
whole_references s = eqb (length s % reference_size) 0

-- byte 0: 0 inline, 1 registry; 4..7 and 8..11: first record and record count, or name start and length; the rest 0
unfoldable pub reference_at : List ℕ → ℕ → Reference
reference_at s i = record {
  kind = get_or s (reference_start i) 0;
  spare = le_at s (reference_start i + 1) 3;
  start = le_at s (reference_start i + 4) 4;
  len = le_at s (reference_start i + 8) 4;
  rest = le_at s (reference_start i + 12) 4;
}

-- the same for registry entries
abbrev pub entry_size : ℕ
entry_size = 16

abbrev pub entry_start : ℕ → ℕ
entry_start i = i * entry_size

abbrev pub EntryIn : ℕ → ℕ → Type 0
EntryIn i bytes = entry_start i + entry_size ≤ bytes

abbrev pub entry_count : List ℕ → ℕ
entry_count s = length s / entry_size

abbrev pub whole_entries : List ℕ → Bool
whole_entries s = eqb (length s % entry_size) 0

-- name start, name length, first record, record count
unfoldable pub entry_at : List ℕ → ℕ → Entry
entry_at s i = record {
  start = le_at s (entry_start i) 4;
  len = le_at s (entry_start i + 4) 4;
  first = le_at s (entry_start i + 8) 4;
  count = le_at s (entry_start i + 12) 4;
}

unfoldable pub entry_name : List ℕ → List ℕ → ℕ → List ℕ
entry_name names registry j = part names (entry_at registry j).start (entry_at registry j).len

-- the first entry among n from j on that has the name
unfoldable pub lookup : List ℕ → List ℕ → List ℕ → ℕ → ℕ → Located
lookup names registry name j zero = NoEntry
lookup names registry name j (suc n) =
    pick (is_equal (order (entry_name names registry j) name)) (Block (entry_at registry j).first (entry_at registry j).count)
    (lookup names registry name (j + 1) n)

-- where a reference's schema stands
unfoldable pub resolved : List ℕ → List ℕ → Reference → Located
resolved names registry r =
    pick (eqb r.kind 0) (Block r.start r.len)
    (lookup names registry (part names r.start r.len) 0 (entry_count registry))

module _ (f : Format) where
  -- how many tables there are
  abbrev pub tables : ℕ
  tables = reference_count f.references

  -- where table t's schema stands
  unfoldable pub table_schema : ℕ → Located
  table_schema t = pick (ltb t tables) (resolved f.names f.registry (reference_at f.references t)) NoTable

  -- ---- all flat forms (2)
  unfoldable pub reference_ok : Reference → Bool
  reference_ok r =
      eqb r.spare 0 and eqb r.rest 0
      and pick (eqb r.kind 0) (block_form_ok f.table (length f.names) r.start r.len)
      (eqb r.kind 1 and span_ok r.start r.len (length f.names))

  -- names strictly ascending by bytes
  unfoldable pub ascending : ℕ → Bool
  ascending zero = true
  ascending (suc j) = is_less (order (entry_name f.names f.registry j) (entry_name f.names f.registry (suc j)))

  unfoldable pub entry_ok : ℕ → Bool
  entry_ok j =
      span_ok (entry_at f.registry j).start (entry_at f.registry j).len (length f.names)
      and block_form_ok f.table (length f.names) (entry_at f.registry j).first (entry_at f.registry j).count
      and ascending j

  unfoldable pub reference_form_ok : ℕ → Bool
  reference_form_ok t = reference_ok (reference_at f.references t)

  unfoldable pub forms_ok : Bool
  forms_ok =
      whole_nodes f.table and whole_references f.references and whole_entries f.registry
      and all entry_ok (entry_count f.registry) and all reference_form_ok tables

  -- ---- all depths (3)
  unfoldable pub entry_depth_ok : ℕ → Bool
  entry_depth_ok j = block_depth_ok f.table (entry_at f.registry j).first (entry_at f.registry j).count

  unfoldable pub reference_depth_ok : ℕ → Bool
  reference_depth_ok t = let r = reference_at f.references t in pick (eqb r.kind 0) (block_depth_ok f.table r.start r.len) true

  unfoldable pub depths_ok : Bool
  depths_ok = all entry_depth_ok (entry_count f.registry) and all reference_depth_ok tables

  -- ---- all names (33): of each entry and of the records of its block; of the records of an inline block, or the name that a reference gives
  unfoldable pub entry_utf8 : ℕ → Bool
  entry_utf8 j =
      is_utf8 (entry_name f.names f.registry j)
      and block_utf8 f.table f.names (entry_at f.registry j).first (entry_at f.registry j).count

  unfoldable pub reference_utf8 : ℕ → Bool
  reference_utf8 t =
      let r = reference_at f.references t in
      pick (eqb r.kind 0) (block_utf8 f.table f.names r.start r.len) (is_utf8 (part f.names r.start r.len))

  unfoldable pub format_utf8 : Bool
  format_utf8 = all entry_utf8 (entry_count f.registry) and all reference_utf8 tables

  -- ---- the Rust's order: no tables; registry schemas in name order; then each table in turn: reference or inline schema, root, names
  unfoldable pub entry_rule : ℕ → Result ⊤ Refusal
  entry_rule j = block_rule f.table (entry_at f.registry j).first (entry_at f.registry j).count

  unfoldable pub root_of : ℕ → Located → Result ⊤ Refusal
  root_of t (Block first n) = table_rule Purpose.Format (block f.table first n) first
  root_of t NoTable = Err (UnknownRegistryReference t)
  root_of t NoEntry = Err (UnknownRegistryReference t)

  -- an inline schema is checked here, a registry's was checked before
  unfoldable pub inline_rule : Reference → Result ⊤ Refusal
  inline_rule r = pick (eqb r.kind 0) (block_rule f.table r.start r.len) (Ok tt)

  unfoldable pub reference_rule : ℕ → Result ⊤ Refusal
  reference_rule t = let r = reference_at f.references t in inline_rule r then root_of t (resolved f.names f.registry r)

  unfoldable pub rules_order : Result ⊤ Refusal
  rules_order =
      pick (eqb tables 0) (Err EmptyTableSchemas)
      (in_order entry_rule 0 (entry_count f.registry) then in_order reference_rule 0 tables)

  unfoldable pub sizes_ok : Bool
  sizes_ok = short_ok f.table and short_ok f.names and short_ok f.references and short_ok f.registry

  -- what the check of a format answers, its sizes left aside
  unfoldable pub format_rules : Result ⊤ Refusal
  format_rules =
      pick forms_ok (pick depths_ok (pick format_utf8 rules_order (Err NameNotUtf8)) (Err TooDeep))
      (Err BadSchemaTable)

  -- what the check of a format answers
  unfoldable pub format_rule : Result ⊤ Refusal
  format_rule = pick sizes_ok format_rules (Err Setting)

-- ---- one block by itself, given by numbers: form, depth, names, and what the rules say of it
unfoldable pub one_block : List ℕ → List ℕ → ℕ → ℕ → Result ⊤ Refusal → Result ⊤ Refusal
one_block table names first n rules =
    pick (whole_nodes table and block_form_ok table (length names) first n)
    (pick (block_depth_ok table first n) (pick (block_utf8 table names first n) rules (Err NameNotUtf8)) (Err TooDeep))
    (Err BadSchemaTable)

-- what the check of one name answers
unfoldable pub name_answer : List ℕ → Result ⊤ Refusal
name_answer name = pick (short_ok name) (pick (is_utf8 name) (Ok tt) (Err NameNotUtf8)) (Err Setting)

-- what the check of a schema alone answers
unfoldable pub schema_answer : List ℕ → List ℕ → ℕ → ℕ → Result ⊤ Refusal
schema_answer table names first n =
    pick (short_ok table and short_ok names) (one_block table names first n (block_rule table first n)) (Err Setting)

-- the encoder checks schema, root, names
unfoldable pub encoder_rules : List ℕ → List ℕ → ℕ → ℕ → Result ⊤ Refusal
encoder_rules table names first n =
    one_block table names first n (block_rule table first n then table_rule Purpose.Encoder (block table first n) first)

unfoldable pub encoder_rule : List ℕ → List ℕ → ℕ → ℕ → Result ⊤ Refusal
encoder_rule table names first n = pick (short_ok table and short_ok names) (encoder_rules table names first n) (Err Setting)
