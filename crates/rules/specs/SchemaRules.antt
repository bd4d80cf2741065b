-- The schema rules on a block, in the Rust's order: the first refusal, with its record as the place.
-- Assumes nothing: these are definitions.
use Rattle.std.specs.Prelude.{ℕ, zero, suc, ◌+◌, ◌-◌, List, [], ◌∷◌, ◌++◌, ltb, leb, eqb, Result, Ok, Err, ⊤}
use Rattle.rules.specs.Choice.{pick, ◌and◌}
use Rattle.rules.specs.Wire.{form, maximum}
use Rattle.rules.specs.Refusals.{◌then◌, in_order, BadSchemaTable, TooDeep, UnexpectedChildren, TooManyChildren, TableSchemaRootMustBeTuple, TableSchemaMustBeTuple, TableSchemaChildMissingName}
use Rattle.rules.specs.Block.{node_at}
use Rattle.rules.specs.declared.wire_type.Children.{Children}
use Rattle.rules.specs.declared.wire_type.Children.TheVariants.{Zero, UpTo, Any, Unknown}
use Rattle.rules.specs.declared.table_record.Node.{Node}
use Rattle.rules.specs.declared.refusal.Refusal.{Refusal}
use Rattle.rules.specs.declared.answer.Purpose.{Purpose}
use Rattle.rules.specs.declared.answer.Purpose.TheVariants.{Format, Encoder}

-- 4 and 5 for a node by itself. (A code without a wire type is in no block of the form.)
unfoldable pub node_rule : ℕ → Node → Children → Result ⊤ Refusal
node_rule place n Zero = pick (eqb n.children 0) (Ok tt) (Err (UnexpectedChildren n.code n.children place))
node_rule place n (UpTo most) = pick (leb n.children most) (Ok tt) (Err (TooManyChildren n.code n.children most place))
node_rule place n Any = Ok tt
node_rule place n Unknown = Err BadSchemaTable

-- node i of a block whose first record is number `base` of the table
unfoldable pub rule_at : List ℕ → ℕ → ℕ → Result ⊤ Refusal
rule_at s base i = node_rule (base + i) (node_at s i) (maximum (form (node_at s i).code))

-- a node is checked before its children, children in order, with one level less. (A block that was checked for depth never runs out.)
unfoldable pub schema_rule : List ℕ → ℕ → ℕ → ℕ → Result ⊤ Refusal
schema_rule s base zero i = Err TooDeep
schema_rule s base (suc d) i = rule_at s base i then in_order (schema_rule s base d) (node_at s i).first (node_at s i).children

-- ---- a table's root (8 in a format, 9 for the encoder) and the names of its direct children (10)
unfoldable pub not_tuple : Purpose → ℕ → ℕ → Refusal
not_tuple Format found place = TableSchemaRootMustBeTuple found place
not_tuple Encoder found place = TableSchemaMustBeTuple found place

unfoldable pub root_rule : Purpose → ℕ → Node → Result ⊤ Refusal
root_rule purpose place n = pick (eqb n.code 19) (Ok tt) (Err (not_tuple purpose n.code place))

unfoldable pub name_rule : ℕ → ℕ → Node → Result ⊤ Refusal
name_rule place index n = pick (eqb n.named 1 and ltb 0 n.len) (Ok tt) (Err (TableSchemaChildMissingName index place))

-- node i as a direct child of the root
unfoldable pub child_rule : List ℕ → ℕ → ℕ → Result ⊤ Refusal
child_rule s base i = name_rule (base + i) (i - (node_at s 0).first) (node_at s i)

unfoldable pub table_rule : Purpose → List ℕ → ℕ → Result ⊤ Refusal
table_rule purpose s base = root_rule purpose base (node_at s 0) then in_order (child_rule s base) (node_at s 0).first (node_at s 0).children

-- ---- the same in other words: the first refusal over the nodes in preorder

-- the first refusal over a list of nodes
unfoldable pub first_of : (ℕ → Result ⊤ Refusal) → List ℕ → Result ⊤ Refusal
first_of rule [] = Ok tt
first_of rule (i ∷ is) = rule i then first_of rule is

unfoldable pub listed : (ℕ → List ℕ) → ℕ → ℕ → List ℕ
listed nodes i zero = []
listed nodes i (suc n) = nodes i ++ listed nodes (i + 1) n

-- node i and all below it: a node before its children, its children in order
unfoldable pub preorder : List ℕ → ℕ → ℕ → List ℕ
preorder s zero i = []
preorder s (suc d) i = i ∷ listed (preorder s d) (node_at s i).first (node_at s i).children
