-- Schemas as trees: their depth, and which of them the schema rules allow.
-- Assumes nothing: these are definitions.
use Rattle.std.specs.Prelude.{ℕ, zero, suc, ◌+◌, ◌≤◌, max, ◌≡◌, List, [], ◌∷◌}
use Rattle.rules.specs.Wire.{form, maximum}
use Rattle.rules.specs.declared.wire_type.Children.{Children}
use Rattle.rules.specs.declared.wire_type.Children.TheVariants.{Zero, UpTo, Any, Unknown}

pub data Name : Type 0 where
  unnamed : Name
  named : List ℕ → Name

mutual
  -- wire code, name, children
  pub data Schema : Type 0 where
    node : ℕ → Name → Schemas → Schema

  pub data Schemas : Type 0 where
    nil : Schemas
    cons : Schema → Schemas → Schemas

-- a node that has no wire type, and so no rows
abbrev pub no_schema : Schema
no_schema = node 255 unnamed nil

unfoldable pub count : Schemas → ℕ
count nil = 0
count (cons s ss) = suc (count ss)

-- the child that a tag names
unfoldable pub child : Schemas → ℕ → Schema
child nil t = no_schema
child (cons s ss) zero = s
child (cons s ss) (suc t) = child ss t

-- the root counts as 1
unfoldable mutual
  pub deep : Schema → ℕ
  deep (node k m ss) = suc (deeps ss)

  pub deeps : Schemas → ℕ
  deeps nil = 0
  deeps (cons s ss) = max (deep s) (deeps ss)

-- how many nodes it has
unfoldable mutual
  pub nodes : Schema → ℕ
  nodes (node k m ss) = suc (nodes_all ss)

  pub nodes_all : Schemas → ℕ
  nodes_all nil = 0
  nodes_all (cons s ss) = nodes s + nodes_all ss

-- ---- the schema rules: how many children a node may have
unfoldable pub Allows : Children → ℕ → Type 0
Allows Zero n = n ≡ 0
Allows (UpTo most) n = n ≤ most
Allows Any n = Unit
Allows Unknown n = ⊥

mutual
  pub data Valid : Schema → Type 0 where
    valid : {k : ℕ} {m : Name} {ss : Schemas} →
        Allows (maximum (form k)) (count ss) → ValidAll ss →
        Valid (node k m ss)

  pub data ValidAll : Schemas → Type 0 where
    no_schemas : ValidAll nil
    a_schema : {s : Schema} {ss : Schemas} →
        Valid s → ValidAll ss →
        ValidAll (cons s ss)

-- ---- a table's root is a tuple, and every direct child has a non-empty name
unfoldable pub NonEmpty : Name → Type 0
NonEmpty unnamed = ⊥
NonEmpty (named []) = ⊥
NonEmpty (named (x ∷ xs)) = Unit

unfoldable pub AllNamed : Schemas → Type 0
AllNamed nil = Unit
AllNamed (cons (node k m ss) ts) = NonEmpty m × AllNamed ts

unfoldable pub TableRoot : Schema → Type 0
TableRoot (node k m ss) = (k ≡ 19) × AllNamed ss
