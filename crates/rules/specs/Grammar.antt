-- What a row IS: which bytes are a row of which value under which schema; which values conform; the canonical writing.
-- No reader and no writer is named here.
-- Assumes nothing: these are definitions.
use Rattle.std.specs.Prelude.{ℕ, ◌^◌, ◌<◌, ◌≡◌, Bool, true, false, List, [], ◌∷◌, ◌++◌, length}
use Rattle.rules.specs.Bytes.{le}
use Rattle.rules.specs.Wire.{Form, empty, truth, fixed, raw, sized, variant_form, repeated_form, tuple_form, form, width_of, end_tag}
use Rattle.rules.specs.Schema.{Name, Schema, node, Schemas, nil, cons, count, child}
use Rattle.rules.specs.Value.{Value, nothing, boolean, number, wide, blob, variant, repeated, tuple, Items, done, item, Values, none, more}
use Rattle.rules.specs.ValueTable.{bit}

-- ---- which bytes are a row of which value
mutual
  -- the bytes of a node are as the form of its wire code says
  pub data Row : Schema → Value → List ℕ → Type 0 where
    row : {k : ℕ} {m : Name} {ss : Schemas} {v : Value} {b : List ℕ} →
        Body (form k) k ss v b →
        Row (node k m ss) v b

  pub data Body : Form → ℕ → Schemas → Value → List ℕ → Type 0 where
    -- no bytes
    a_nothing : {k : ℕ} {ss : Schemas} →
        Body empty k ss nothing []
    -- a boolean reads false for the byte 0, and true for every other
    a_false : {k : ℕ} {ss : Schemas} →
        Body truth k ss (boolean false) (0 ∷ [])
    a_true : {k x : ℕ} {ss : Schemas} →
        0 < x →
        Body truth k ss (boolean true) (x ∷ [])
    -- a number that fits its width, little-endian
    a_number : {w k x : ℕ} {ss : Schemas} {b : List ℕ} →
        x < 256 ^ w → b ≡ le w x →
        Body (fixed w) k ss (number k x) b
    -- 16 or 32 bytes as they are
    a_wide : {w k : ℕ} {ss : Schemas} {b : List ℕ} →
        length b ≡ w →
        Body (raw w) k ss (wide k b) b
    -- a u32 length and the bytes
    a_blob : {k : ℕ} {ss : Schemas} {x b : List ℕ} →
        length x < 256 ^ 4 → b ≡ le 4 (length x) ++ x →
        Body sized k ss (blob k x) b
    -- a tag, the tagged child
    a_variant : {w k t : ℕ} {ss : Schemas} {v : Value} {x b : List ℕ} →
        t < 256 ^ w → t < count ss → Row (child ss t) v x → b ≡ le w t ++ x →
        Body (variant_form w) k ss (variant t v) b
    -- such pairs until the end tag
    a_repeated : {w k : ℕ} {ss : Schemas} {is : Items} {b : List ℕ} →
        Pairs w ss is b →
        Body (repeated_form w) k ss (repeated is) b
    -- children in order
    a_tuple : {k : ℕ} {ss : Schemas} {vs : Values} {b : List ℕ} →
        Fields ss vs b →
        Body tuple_form k ss (tuple vs) b

  pub data Pairs : ℕ → Schemas → Items → List ℕ → Type 0 where
    end : {w : ℕ} {ss : Schemas} {b : List ℕ} →
        b ≡ le w (end_tag w) →
        Pairs w ss done b
    pair : {w t : ℕ} {ss : Schemas} {v : Value} {is : Items} {x y b : List ℕ} →
        t < end_tag w → t < count ss → Row (child ss t) v x → Pairs w ss is y → b ≡ le w t ++ (x ++ y) →
        Pairs w ss (item t v is) b

  pub data Fields : Schemas → Values → List ℕ → Type 0 where
    no_field : Fields nil none []
    field : {s : Schema} {ss : Schemas} {v : Value} {vs : Values} {x y b : List ℕ} →
        Row s v x → Fields ss vs y → b ≡ x ++ y →
        Fields (cons s ss) (more v vs) b

-- a row of table t, where there are n tables and these are their schemas: a u16 table tag and the root's value
pub data TableRow (n : ℕ) (schema : ℕ → Schema) : ℕ → Value → List ℕ → Type 0 where
  table_row : {t : ℕ} {v : Value} {x b : List ℕ} →
      t < 256 ^ 2 → t < n → Row (schema t) v x → b ≡ le 2 t ++ x →
      TableRow n schema t v b

-- ---- which values conform to a schema
mutual
  pub data Conforms : Schema → Value → Type 0 where
    conforms : {k : ℕ} {m : Name} {ss : Schemas} {v : Value} →
        Suits (form k) k ss v →
        Conforms (node k m ss) v

  -- a scalar's or blob's kind equals the wire code; a tag is below the child count; a tuple has one child for each schema child
  pub data Suits : Form → ℕ → Schemas → Value → Type 0 where
    s_nothing : {k : ℕ} {ss : Schemas} →
        Suits empty k ss nothing
    s_boolean : {k : ℕ} {ss : Schemas} {x : Bool} →
        Suits truth k ss (boolean x)
    s_number : {w k x : ℕ} {ss : Schemas} →
        Suits (fixed w) k ss (number k x)
    s_wide : {w k : ℕ} {ss : Schemas} {x : List ℕ} →
        Suits (raw w) k ss (wide k x)
    s_blob : {k : ℕ} {ss : Schemas} {x : List ℕ} →
        Suits sized k ss (blob k x)
    s_variant : {w k t : ℕ} {ss : Schemas} {v : Value} →
        t < count ss → Conforms (child ss t) v →
        Suits (variant_form w) k ss (variant t v)
    s_repeated : {w k : ℕ} {ss : Schemas} {is : Items} →
        SuitI ss is →
        Suits (repeated_form w) k ss (repeated is)
    s_tuple : {k : ℕ} {ss : Schemas} {vs : Values} →
        SuitV ss vs →
        Suits tuple_form k ss (tuple vs)

  pub data SuitI : Schemas → Items → Type 0 where
    s_done : {ss : Schemas} →
        SuitI ss done
    s_item : {t : ℕ} {ss : Schemas} {v : Value} {is : Items} →
        t < count ss → Conforms (child ss t) v → SuitI ss is →
        SuitI ss (item t v is)

  pub data SuitV : Schemas → Values → Type 0 where
    s_none : SuitV nil none
    s_more : {s : Schema} {ss : Schemas} {v : Value} {vs : Values} →
        Conforms s v → SuitV ss vs →
        SuitV (cons s ss) (more v vs)

-- ---- the canonical writing: true is written 1
unfoldable pub form_of : Schema → Form
form_of (node k m ss) = form k

unfoldable pub children_of : Schema → Schemas
children_of (node k m ss) = ss

unfoldable mutual
  pub bytes_v : Value → Form → Schemas → List ℕ
  bytes_v nothing f ss = []
  bytes_v (boolean x) f ss = bit x ∷ []
  bytes_v (number k x) f ss = le (width_of f) x
  bytes_v (wide k x) f ss = x
  bytes_v (blob k x) f ss = le 4 (length x) ++ x
  bytes_v (variant t v) f ss = le (width_of f) t ++ bytes_v v (form_of (child ss t)) (children_of (child ss t))
  bytes_v (repeated is) f ss = bytes_i is (width_of f) ss
  bytes_v (tuple vs) f ss = bytes_f vs ss

  pub bytes_i : Items → ℕ → Schemas → List ℕ
  bytes_i done w ss = le w (end_tag w)
  bytes_i (item t v is) w ss = le w t ++ (bytes_v v (form_of (child ss t)) (children_of (child ss t)) ++ bytes_i is w ss)

  pub bytes_f : Values → Schemas → List ℕ
  bytes_f none ss = []
  bytes_f (more v vs) nil = []
  bytes_f (more v vs) (cons s ss) = bytes_v v (form_of s) (children_of s) ++ bytes_f vs ss

unfoldable pub encoded : Schema → Value → List ℕ
encoded s v = bytes_v v (form_of s) (children_of s)

-- a whole row: the encoder writes table tag 0
unfoldable pub encoded_row : Schema → Value → List ℕ
encoded_row s v = le 2 0 ++ encoded s v
