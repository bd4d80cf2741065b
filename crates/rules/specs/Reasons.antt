-- Why a row is refused: up to a position the bytes are the beginning of a row within the limits, and what comes next there fails.
-- No reader is named here. `at` is a position of the input, `spent` what the row was charged for all that stands before it.
-- Assumes nothing: these are definitions.
use Rattle.std.specs.Prelude.{ℕ, ◌+◌, ◌^◌, ◌≤◌, ◌<◌, ◌≡◌, List, length, Some}
use Rattle.rules.specs.Bytes.{le, Stands}
use Rattle.rules.specs.Wire.{Form, sized, variant_form, repeated_form, tuple_form, form, end_tag, fixed_form}
use Rattle.rules.specs.Schema.{Name, Schema, node, Schemas, cons, count, child}
use Rattle.rules.specs.Format.{Format, tables}
use Rattle.rules.specs.Value.{Value, Within, costs}
use Rattle.rules.specs.Grammar.{Row}
use Rattle.rules.specs.Walk.{Limits, blob_limit, Pos}
use Rattle.rules.specs.Reading.{schema_of, Accepts}
use Rattle.rules.specs.declared.refusal.Refusal.{Refusal}
use Rattle.rules.specs.Refusals.{MissingTableSchema, Truncated, RowTooLarge, BlobTooLarge, InvalidVariantTag}

module _ (inp : List ℕ) where
  -- the input ends within the n bytes from a position on
  abbrev pub Cut : ℕ → ℕ → Type 0
  Cut at n = length inp < at + n

  -- at a position stands the number x in w bytes
  pub record Number (at w x : ℕ) : Type 0 where
    pub fits : x < 256 ^ w
    pub stands : Stands inp at (le w x)

module _ (inp : List ℕ) (lim : Limits) where
  -- at a position stands a whole value of a schema, each blob within its type's limit; it ends at at', and what is spent by then is within the
  -- row limit
  pub record StandsWhole (s : Schema) (at spent at' spent' : ℕ) : Type 0 where
    pub value : Value
    pub bytes : List ℕ
    pub is : Row s value bytes
    pub stands : Stands inp at bytes
    pub within : Within (blob_limit lim) value
    pub afford : spent' ≤ lim.row
    pub ends : at' ≡ at + length bytes
    pub spends : spent' ≡ spent + costs lim.charge value

  mutual
    -- a node that begins at a position: the row is charged for it before any byte of it, or 13 where it would start
    pub data NodeReason : Schema → ℕ → ℕ → Refusal → Type 0 where
      dear_node : {s : Schema} {at spent : ℕ} →
          lim.row < spent + lim.charge →
          NodeReason s at spent (RowTooLarge lim.row at)
      in_node : {k at spent : ℕ} {m : Name} {ss : Schemas} {r : Refusal} →
          spent + lim.charge ≤ lim.row → BodyReason (form k) k ss at (spent + lim.charge) r →
          NodeReason (node k m ss) at spent r

    -- the bytes of a node of code k and children ss, by the form of its code
    pub data BodyReason : Form → ℕ → Schemas → ℕ → ℕ → Refusal → Type 0 where
      -- a fixed type: 12 at its bytes, and the context is its code (nothing has no bytes, and is never cut)
      cut_scalar : {f : Form} {k at spent : ℕ} {ss : Schemas} (w : ℕ) →
          fixed_form f ≡ Some w → Cut inp at w →
          BodyReason f k ss at spent (Truncated k at)
      -- a blob, in this order: its length, 12 with context 13; its type's limit (14); the charge for its length (13, at the length field);
      -- its payload, 12 with context 14
      cut_length : {k at spent : ℕ} {ss : Schemas} →
          Cut inp at 4 →
          BodyReason sized k ss at spent (Truncated 13 at)
      long_blob : {k at spent n : ℕ} {ss : Schemas} →
          Number inp at 4 n → blob_limit lim k < n →
          BodyReason sized k ss at spent (BlobTooLarge k n (blob_limit lim k) at)
      dear_blob : {k at spent n : ℕ} {ss : Schemas} →
          Number inp at 4 n → n ≤ blob_limit lim k → lim.row < spent + n →
          BodyReason sized k ss at spent (RowTooLarge lim.row at)
      cut_payload : {k at spent n : ℕ} {ss : Schemas} →
          Number inp at 4 n → n ≤ blob_limit lim k → spent + n ≤ lim.row → Cut inp (at + 4) n →
          BodyReason sized k ss at spent (Truncated 14 (at + 4))
      -- a variant: its tag and child; a repeated one: its pairs; a tuple: its children
      of_variant : {w k at spent : ℕ} {ss : Schemas} {r : Refusal} →
          TagReason w k ss at spent r →
          BodyReason (variant_form w) k ss at spent r
      of_repeated : {w k at spent : ℕ} {ss : Schemas} {r : Refusal} →
          PairsReason w k ss at spent r →
          BodyReason (repeated_form w) k ss at spent r
      of_tuple : {k at spent : ℕ} {ss : Schemas} {r : Refusal} →
          FieldsReason ss at spent r →
          BodyReason tuple_form k ss at spent r

    -- a tag of w bytes: 12 with context 15 or 16; not below the child count (17); and the child that it names
    pub data TagReason : ℕ → ℕ → Schemas → ℕ → ℕ → Refusal → Type 0 where
      cut_tag : {w k at spent : ℕ} {ss : Schemas} →
          Cut inp at w →
          TagReason w k ss at spent (Truncated (14 + w) at)
      stray_tag : {w k at spent t : ℕ} {ss : Schemas} →
          Number inp at w t → count ss ≤ t →
          TagReason w k ss at spent (InvalidVariantTag k t (count ss) at)
      in_child : {w k at spent t : ℕ} {ss : Schemas} {r : Refusal} →
          Number inp at w t → t < count ss → NodeReason (child ss t) (at + w) spent r →
          TagReason w k ss at spent r

    -- pairs: no end tag stands here and this pair is refused, or this pair stands whole and a later one is refused
    pub data PairsReason : ℕ → ℕ → Schemas → ℕ → ℕ → Refusal → Type 0 where
      this_pair : {w k at spent : ℕ} {ss : Schemas} {r : Refusal} →
          (Number inp at w (end_tag w) → ⊥) → TagReason w k ss at spent r →
          PairsReason w k ss at spent r
      later_pair : {w k at spent at' spent' t : ℕ} {ss : Schemas} {r : Refusal} →
          Number inp at w t → t < end_tag w → t < count ss → StandsWhole (child ss t) (at + w) spent at' spent' → PairsReason w k ss at' spent' r →
          PairsReason w k ss at spent r

    -- children in order: this one is refused, or it stands whole and a later one is refused
    pub data FieldsReason : Schemas → ℕ → ℕ → Refusal → Type 0 where
      this_field : {s : Schema} {ss : Schemas} {at spent : ℕ} {r : Refusal} →
          NodeReason s at spent r →
          FieldsReason (cons s ss) at spent r
      later_field : {s : Schema} {ss : Schemas} {at spent at' spent' : ℕ} {r : Refusal} →
          StandsWhole s at spent at' spent' → FieldsReason ss at' spent' r →
          FieldsReason (cons s ss) at spent r

module _ (f : Format) (inp : List ℕ) (lim : Limits) (at : ℕ) where
  -- a row: its table tag, 12 with context 17; a table that is not there (11); and the root, when nothing is spent
  pub data RowReason : Refusal → Type 0 where
    cut-table-tag :
        Cut inp at 2 →
        RowReason (Truncated 17 at)
    missing_table : {t : ℕ} →
        Number inp at 2 t → tables f ≤ t →
        RowReason (MissingTableSchema t at)
    in_root : {t : ℕ} {r : Refusal} →
        Number inp at 2 t → t < tables f → NodeReason inp lim (schema_of f t) (at + 2) 0 r →
        RowReason r

  -- a row stands there within the limits and nothing refuses it, or a reason refuses it and no row stands there within the limits
  pub data RowJudged : Type 0 where
    is_accepted : (t : ℕ) (v : Value) (q : Pos) →
        Accepts f inp lim at t v q → ((r : Refusal) → RowReason r → ⊥) →
        RowJudged
    is_refused : (r : Refusal) →
        RowReason r → ((t : ℕ) (v : Value) (q : Pos) → Accepts f inp lim at t v q → ⊥) →
        RowJudged
