-- The nodes of a value in preorder, each with where it stands; and what a host is told of each.
-- Assumes nothing: these are definitions.
use Rattle.std.specs.Prelude.{ℕ, zero, suc, ◌+◌, List, [], ◌∷◌, ◌++◌, ◌≡◌, length}
use Rattle.rules.specs.Wire.{form, width_of}
use Rattle.rules.specs.Value.{Value, nothing, boolean, number, wide, blob, variant, repeated, tuple, Items, done, item, Values, none, more, items, values, records_of, payload_of}
use Rattle.rules.specs.Query.{number_said}
use Rattle.rules.specs.declared.host_answer.Scalar.{Scalar}
use Rattle.rules.specs.declared.host_answer.Scalar.TheVariants.{Nothing, Truth, Payload, Children}

-- a node: its value, the tag by which its parent chose it, how many payload bytes are before its own, and its depth, the root's being 1
pub record ValueNode : Type 0 where
  pub value : Value
  pub tag : ℕ
  pub before : ℕ
  pub depth : ℕ

abbrev pub value_node : Value → ℕ → ℕ → ℕ → ValueNode
value_node v tag p depth = record { value = v; tag = tag; before = p; depth = depth }

-- the nodes below one, that are so deep
unfoldable mutual
  pub nodes_below : Value → ℕ → ℕ → List ValueNode
  nodes_below nothing p d = []
  nodes_below (boolean x) p d = []
  nodes_below (number k x) p d = []
  nodes_below (wide k x) p d = []
  nodes_below (blob k x) p d = []
  nodes_below (variant t v) p d = value_node v t p d ∷ nodes_below v p (suc d)
  nodes_below (repeated is) p d = nodes_below_i is p d
  nodes_below (tuple vs) p d = nodes_below_v vs p d

  pub nodes_below_i : Items → ℕ → ℕ → List ValueNode
  nodes_below_i done p d = []
  nodes_below_i (item t v is) p d = value_node v t p d ∷ (nodes_below v p (suc d) ++ nodes_below_i is (p + payload_of v) d)

  pub nodes_below_v : Values → ℕ → ℕ → List ValueNode
  nodes_below_v none p d = []
  nodes_below_v (more v vs) p d = value_node v 0 p d ∷ (nodes_below v p (suc d) ++ nodes_below_v vs (p + payload_of v) d)

-- the nodes of a value
unfoldable pub value_preorder : Value → List ValueNode
value_preorder v = value_node v 0 0 1 ∷ nodes_below v 0 2

-- node i is this one
unfoldable pub NodeIs : List ValueNode → ℕ → ValueNode → Type 0
NodeIs [] i n = ⊥
NodeIs (m ∷ ms) zero n = m ≡ n
NodeIs (m ∷ ms) (suc i) n = NodeIs ms i n

-- what the query says of a node
unfoldable pub value_said : Value → ℕ → Scalar
value_said nothing p = Nothing
value_said (boolean x) p = Truth x
value_said (number k x) p = number_said k (width_of (form k)) x
value_said (wide k x) p = Payload p (length x)
value_said (blob k x) p = Payload p (length x)
value_said (variant t v) p = Children 1
value_said (repeated is) p = Children (items is)
value_said (tuple vs) p = Children (values vs)

-- ---- children

-- field k of a tuple is this value
unfoldable pub FieldIs : Values → ℕ → Value → Type 0
FieldIs none k u = ⊥
FieldIs (more v vs) zero u = v ≡ u
FieldIs (more v vs) (suc k) u = FieldIs vs k u

-- the nodes of the fields before field k
unfoldable pub nodes_before : Values → ℕ → ℕ
nodes_before none k = 0
nodes_before (more v vs) zero = 0
nodes_before (more v vs) (suc k) = records_of v + nodes_before vs k

-- the first child of a value is this one
unfoldable pub FirstChild : Value → Value → Type 0
FirstChild nothing u = ⊥
FirstChild (boolean x) u = ⊥
FirstChild (number k x) u = ⊥
FirstChild (wide k x) u = ⊥
FirstChild (blob k x) u = ⊥
FirstChild (variant t v) u = v ≡ u
FirstChild (repeated done) u = ⊥
FirstChild (repeated (item t v is)) u = v ≡ u
FirstChild (tuple none) u = ⊥
FirstChild (tuple (more v vs)) u = v ≡ u

-- how many children a value has
unfoldable pub value_children : Value → ℕ
value_children nothing = 0
value_children (boolean x) = 0
value_children (number k x) = 0
value_children (wide k x) = 0
value_children (blob k x) = 0
value_children (variant t v) = 1
value_children (repeated is) = items is
value_children (tuple vs) = values vs
