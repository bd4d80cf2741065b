-- A schema as a flat block of records in level order: which blocks have the form, and what tree a block denotes.
-- Assumes nothing: these are definitions.
use Rattle.std.specs.Prelude.{ℕ, zero, suc, ◌+◌, ◌*◌, ◌/◌, ◌%◌, ◌≤◌, ◌<◌, ◌≡◌, Bool, true, List, [], length, get_or, take, drop, ltb, leb, eqb}
use Rattle.rules.specs.Choice.{pick, ◌and◌, all}
use Rattle.rules.specs.Bytes.{le_at, part}
use Rattle.rules.specs.Utf8.{Utf8, is_utf8}
use Rattle.rules.specs.Schema.{Name, unnamed, named, Schema, node, Schemas, nil, cons, no_schema, deep}
use Rattle.rules.specs.declared.table_record.Node.{Node}

-- a schema record's bytes
abbrev pub node_size : ℕ
node_size = 16

-- where the record of node i starts, and so how many bytes i records have
abbrev pub node_start : ℕ → ℕ
node_start i = i * node_size

-- the record of node i lies in so many bytes
abbrev pub NodeIn : ℕ → ℕ → Type 0
NodeIn i bytes = node_start i + node_size ≤ bytes

-- byte 0 wire code; byte 1 is 1 if named, else 0; 2..3 name length; 4..7 name start; 8..11 first child; 12..15 child count
unfoldable pub node_at : List ℕ → ℕ → Node
node_at s i = record {
  code = get_or s (node_start i) 0;
  named = get_or s (node_start i + 1) 0;
  len = le_at s (node_start i + 2) 2;
  start = le_at s (node_start i + 4) 4;
  first = le_at s (node_start i + 8) 4;
  children = le_at s (node_start i + 12) 4;
}

-- the records of a table, whole ones
abbrev pub records : List ℕ → ℕ
records s = length s / node_size

-- it has no other bytes
abbrev pub whole_nodes : List ℕ → Bool
whole_nodes s = eqb (length s % node_size) 0

-- n records of a table from record `first` on
unfoldable pub block : List ℕ → ℕ → ℕ → List ℕ
block table first n = take (node_start n) (drop (node_start first) table)

-- ---- the form, as a test

-- the sum of the child counts of the nodes before i
unfoldable pub earlier : List ℕ → ℕ → ℕ
earlier s zero = 0
earlier s (suc i) = earlier s i + (node_at s i).children

-- a span lies in a store of so many bytes
abbrev pub span_ok : ℕ → ℕ → ℕ → Bool
span_ok start len store = leb (start + len) store

-- unnamed: length and start 0; named: the named span lies in the store
unfoldable pub name_ok : Node → ℕ → Bool
name_ok n store = pick (eqb n.named 0) (eqb n.len 0 and eqb n.start 0) (eqb n.named 1 and span_ok n.start n.len store)

-- without children the first child is 0; with children it is `next`, and greater than the node's own index
unfoldable pub children_ok : Node → ℕ → ℕ → Bool
children_ok n i next = pick (eqb n.children 0) (eqb n.first 0) (eqb n.first next and ltb i n.first)

unfoldable pub record_ok : Node → ℕ → ℕ → ℕ → Bool
record_ok n store i next = leb n.code 19 and name_ok n store and children_ok n i next

-- a node with children has first child 1 + the sum of earlier nodes' counts
unfoldable pub record_at : List ℕ → ℕ → ℕ → Bool
record_at s store i = record_ok (node_at s i) store i (1 + earlier s i)

-- whole records, at most 131,072, each of the form, and 1 + the sum of all counts of them
unfoldable pub block_ok : List ℕ → ℕ → Bool
block_ok s store = whole_nodes s and leb (records s) 131072 and all (record_at s store) (records s) and eqb (records s) (1 + earlier s (records s))

-- ---- the form, as facts

pub record LevelOrder (s : List ℕ) (i : ℕ) : Type 0 where
  pub leaf : (node_at s i).children ≡ 0 → (node_at s i).first ≡ 0
  pub parent : 0 < (node_at s i).children → ((node_at s i).first ≡ 1 + earlier s i) × (i < (node_at s i).first)

-- what the tree needs of a block: records in level order
pub record Ordered (s : List ℕ) : Type 0 where
  pub size : length s ≡ node_start (1 + earlier s (records s))
  pub most : records s ≤ 131072
  pub each : (i : ℕ) → i < records s → LevelOrder s i

pub record Named (n : Node) (store : ℕ) : Type 0 where
  pub without : n.named ≡ 0 → (n.len ≡ 0) × (n.start ≡ 0)
  pub with_one : 0 < n.named → (n.named ≡ 1) × (n.start + n.len ≤ store)

-- the whole form: level order, and each record by itself
pub record Formed (s : List ℕ) (store : ℕ) : Type 0 where
  pub order : Ordered s
  pub codes : (i : ℕ) → i < records s → (node_at s i).code ≤ 19
  pub names : (i : ℕ) → i < records s → Named (node_at s i) store

-- ---- the names of a block, and the tree that it denotes

unfoldable pub name_in : List ℕ → Node → Name
name_in store n = pick (eqb n.named 1) (named (part store n.start n.len)) unnamed

-- the name of node i
abbrev pub node_name : List ℕ → List ℕ → ℕ → Name
node_name s store i = name_in store (node_at s i)

-- a name, where there is one, is well-formed UTF-8: as a test and as a fact
unfoldable pub is_name_utf8 : Name → Bool
is_name_utf8 unnamed = true
is_name_utf8 (named s) = is_utf8 s

unfoldable pub NameUtf8 : Name → Type 0
NameUtf8 unnamed = Unit
NameUtf8 (named s) = Utf8 s

-- so is the name of each node
unfoldable pub names_utf8 : List ℕ → List ℕ → Bool
names_utf8 s store = all (λ i. is_name_utf8 (node_name s store i)) (records s)

abbrev pub NamesUtf8 : List ℕ → List ℕ → Type 0
NamesUtf8 s store = (i : ℕ) → i < records s → NameUtf8 (node_name s store i)

-- the trees of n nodes from i on
unfoldable pub trees_from : (ℕ → Schema) → ℕ → ℕ → Schemas
trees_from tree i zero = nil
trees_from tree i (suc n) = cons (tree i) (trees_from tree (i + 1) n)

-- the schema at node i, looked at to a depth; what lies deeper has no wire type
unfoldable pub tree_at : List ℕ → List ℕ → ℕ → ℕ → Schema
tree_at s store zero i = no_schema
tree_at s store (suc d) i = node (node_at s i).code (name_in store (node_at s i)) (trees_from (tree_at s store d) (node_at s i).first (node_at s i).children)

-- the schema of a block, which is no deeper than it has records
unfoldable pub block_tree : List ℕ → List ℕ → Schema
block_tree s store = tree_at s store (records s) 0

-- depth counts the root as 1; names do not matter to it
unfoldable pub depth_of : List ℕ → ℕ
depth_of s = deep (block_tree s [])

-- the same as a relation
module _ (s store : List ℕ) where
  mutual
    -- the record of node i says what the schema says
    pub data Denotes : ℕ → Schema → Type 0 where
      denotes : {i k : ℕ} {m : Name} {ss : Schemas} →
          NodeIn i (length s) → (node_at s i).code ≡ k → name_in store (node_at s i) ≡ m → DenoteAll (node_at s i).first (node_at s i).children ss →
          Denotes i (node k m ss)

    -- so do n records from i on
    pub data DenoteAll : ℕ → ℕ → Schemas → Type 0 where
      no_node : {i : ℕ} →
          DenoteAll i zero nil
      a_node : {i n : ℕ} {t : Schema} {ts : Schemas} →
          Denotes i t → DenoteAll (i + 1) n ts →
          DenoteAll i (suc n) (cons t ts)

-- each record's children lie in the block
unfoldable pub Closed : List ℕ → Type 0
Closed s = (i : ℕ) → NodeIn i (length s) → node_start ((node_at s i).first + (node_at s i).children) ≤ length s
