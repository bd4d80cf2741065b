-- What value stands in the input, limits aside: the rules' walk without charges, refusals and counts. That a row which the
-- walk accepts reads so is `reads`, in proofs/.
-- Assumes nothing: these are definitions.
use Rattle.std.specs.Prelude.{ℕ, zero, suc, ◌+◌, ◌-◌, List, length, ltb, leb, eqb}
use Rattle.rules.specs.Choice.{pick}
use Rattle.rules.specs.Bytes.{le_at, part}
use Rattle.rules.specs.Wire.{Form, empty, truth, fixed, raw, sized, variant_form, repeated_form, tuple_form, unknown, form, end_tag}
use Rattle.rules.specs.Block.{node_at}
use Rattle.rules.specs.Value.{Value, nothing, boolean, number, wide, blob, variant, repeated, tuple, Items, done, item, Values, none, more}
use Rattle.rules.specs.declared.table_record.Node.{Node}

-- something read and the position after it, or nothing
pub data PlainRead (A : Type 0) : Type 0 where
  Got : A → ℕ → PlainRead A
  Not : PlainRead A

infixl 20 ◌>>=◌
unfoldable pub ◌>>=◌ : {A B : Type 0} → PlainRead A → (A × ℕ → PlainRead B) → PlainRead B
Got a q >>= k = k (a, q)
Not >>= k = Not

-- something was read
unfoldable pub IsGot : {A : Type 0} → PlainRead A → Type 0
IsGot (Got a q) = Unit
IsGot Not = ⊥

-- the value that was read, and the position after it
unfoldable pub value_read : PlainRead Value → Value
value_read (Got v q) = v
value_read Not = nothing

unfoldable pub end_read : PlainRead Value → ℕ
end_read (Got v q) = q
end_read Not = 0

-- a number in w bytes
unfoldable pub plain_number_at : List ℕ → ℕ → ℕ → PlainRead ℕ
plain_number_at inp w at = pick (leb w (length inp - at)) (Got (le_at inp at w) (at + w)) Not

-- n bytes
unfoldable pub bytes_at : List ℕ → ℕ → ℕ → PlainRead (List ℕ)
bytes_at inp n at = pick (leb n (length inp - at)) (Got (part inp at n) (at + n)) Not

-- a node without children, by the form of its code. A boolean reads true for every nonzero byte
unfoldable pub leaf_at : List ℕ → ℕ → Form → ℕ → PlainRead Value
leaf_at inp code empty at = Got nothing at
leaf_at inp code truth at = do
  (x, q) ← plain_number_at inp 1 at
  Got (boolean (ltb 0 x)) q
leaf_at inp code (fixed w) at = do
  (x, q) ← plain_number_at inp w at
  Got (number code x) q
leaf_at inp code (raw w) at = do
  (b, q) ← bytes_at inp w at
  Got (wide code b) q
leaf_at inp code sized at = do
  (n, q) ← plain_number_at inp 4 at
  (b, r) ← bytes_at inp n q
  Got (blob code b) r
leaf_at inp code (variant_form w) at = Not
leaf_at inp code (repeated_form w) at = Not
leaf_at inp code tuple_form at = Not
leaf_at inp code unknown at = Not

-- how a child is read: by its index in the block, from a position
abbrev pub Reader : Type 0
Reader = ℕ → ℕ → PlainRead Value

-- the child that the tag names
unfoldable pub child_at : Reader → Node → ℕ → ℕ → PlainRead Value
child_at rec n tag at = pick (ltb tag n.children) (rec (n.first + tag) at) Not

-- pairs until the end tag, at most so many
unfoldable pub pairs_at : List ℕ → Reader → Node → ℕ → ℕ → ℕ → PlainRead Items
pairs_at inp rec n w zero at = Not
pairs_at inp rec n w (suc enough) at = do
  (tag, q) ← plain_number_at inp w at
  pick (eqb tag (end_tag w)) (Got done q)
      (do
        (v, r) ← child_at rec n tag q
        (is, s) ← pairs_at inp rec n w enough r
        Got (item tag v is) s)

-- so many children in order, from index i on
unfoldable pub fields_at : Reader → ℕ → ℕ → ℕ → PlainRead Values
fields_at rec i zero at = Got none at
fields_at rec i (suc children) at = do
  (v, q) ← rec i at
  (vs, r) ← fields_at rec (i + 1) children q
  Got (more v vs) r

-- a node, by the form of its code
unfoldable pub by_form : List ℕ → Reader → Node → Form → ℕ → PlainRead Value
by_form inp rec n (variant_form w) at = do
  (tag, q) ← plain_number_at inp w at
  (v, r) ← child_at rec n tag q
  Got (variant tag v) r
by_form inp rec n (repeated_form w) at = do
  (is, q) ← pairs_at inp rec n w (suc (length inp - at)) at
  Got (repeated is) q
by_form inp rec n tuple_form at = do
  (vs, q) ← fields_at rec n.first n.children at
  Got (tuple vs) q
by_form inp rec n empty at = leaf_at inp n.code empty at
by_form inp rec n truth at = leaf_at inp n.code truth at
by_form inp rec n (fixed w) at = leaf_at inp n.code (fixed w) at
by_form inp rec n (raw w) at = leaf_at inp n.code (raw w) at
by_form inp rec n sized at = leaf_at inp n.code sized at
by_form inp rec n unknown at = leaf_at inp n.code unknown at

-- the value of node i from a position on, at most so many levels deep
unfoldable pub read_at : List ℕ → List ℕ → ℕ → Reader
read_at sch inp zero i at = Not
read_at sch inp (suc depth) i at = by_form inp (read_at sch inp depth) (node_at sch i) (form (node_at sch i).code) at
