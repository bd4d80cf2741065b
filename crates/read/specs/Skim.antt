-- The walk as skip makes it: the rules' walk without the value, over the code's own position and allowance. That it is the
-- same walk is `skim_same`, in proofs/.
-- Assumes nothing: these are definitions.
use Rattle.rules.specs.declared.refusal.Refusal.{Refusal}
use Rattle.std.specs.Prelude.{ℕ, zero, suc, ◌+◌, ◌-◌, List, length, ltb, eqb, Result, Ok, Err}
use Rattle.rules.specs.Choice.{pick}
use Rattle.rules.specs.Wire.{Form, empty, truth, fixed, raw, sized, variant_form, repeated_form, tuple_form, unknown, form, end_tag}
use Rattle.rules.specs.Block.{node_at}
use Rattle.rules.specs.Walk as rule
use Rattle.rules.specs.Refusals.{Setting, BadSchemaTable, TooDeep, InvalidVariantTag}
use Rattle.leaves.specs.Fields.{read_number_at}
use Rattle.leaves.specs.Leaf.{standing, ◌>>=◌, reading, bytes_past, skim_charge, skim_bytes, skim_blob}
use Rattle.leaves.specs.declared.leaf.SkipPos.{SkipPos}

-- ---- what the rules' walk answers, as the code says it

-- a position of the rules, with the limits in its allowance
unfoldable pub skim_pos : rule.Limits → rule.Pos → SkipPos
skim_pos lim p = record { at = p.at; budget = record { max_string32_bytes = lim.string32; max_yson32_bytes = lim.yson32; remaining = p.left; limit = lim.row }; records = p.records; payload = p.payload }

-- the value is forgotten
unfoldable pub skimmed : {A : Type 0} → rule.Limits → rule.Answer A → Result SkipPos Refusal
skimmed lim (rule.Got a q) = Ok (skim_pos lim q)
skimmed lim (rule.Refused r) = Err r

-- one record more
unfoldable pub counted : SkipPos → SkipPos
counted p = standing p.at p.budget (p.records + 1) p.payload

-- ---- nodes with children

-- how a child is skipped: by its index in the block, from a position
abbrev pub Skimmer : Type 0
Skimmer = ℕ → SkipPos → Result SkipPos Refusal

module _ (inp : List ℕ) (rec : Skimmer) (code first count : ℕ) where
  -- the child that the tag names, or 17 at the tag's place
  unfoldable pub skim_child : ℕ → ℕ → SkipPos → Result SkipPos Refusal
  skim_child place tag p = pick (ltb tag count) (rec (first + tag) p) (Err (InvalidVariantTag code tag count place))

  unfoldable pub skim_variant : ℕ → SkipPos → Result SkipPos Refusal
  skim_variant w p = reading (read_number_at inp w (14 + w) p.at) p (skim_child p.at)

  -- pairs until the end tag; each has at least one byte, as in the rules
  unfoldable pub skim_pairs : ℕ → ℕ → SkipPos → Result SkipPos Refusal
  skim_pairs w zero p = Err Setting
  skim_pairs w (suc enough) p = reading (read_number_at inp w (14 + w) p.at) p (λ tag q.
      pick (eqb tag (end_tag w)) (Ok q)
      (do
        r ← skim_child p.at tag q
        skim_pairs w enough r))

-- so many children in order, from index i on
unfoldable pub skim_fields : Skimmer → ℕ → ℕ → SkipPos → Result SkipPos Refusal
skim_fields rec i zero p = Ok p
skim_fields rec i (suc count) p = do
  q ← rec i p
  skim_fields rec (i + 1) count q

-- what the form of a wire code says of the bytes of a node with so many children
unfoldable pub skim_form : List ℕ → Skimmer → ℕ → ℕ → ℕ → Form → SkipPos → Result SkipPos Refusal
skim_form inp rec code first count empty p = Ok p
skim_form inp rec code first count truth p = bytes_past inp 1 code p
skim_form inp rec code first count (fixed w) p = bytes_past inp w code p
skim_form inp rec code first count (raw w) p = skim_bytes inp w code w p
skim_form inp rec code first count sized p = skim_blob inp code p
skim_form inp rec code first count (variant_form w) p = skim_variant inp rec code first count w p
skim_form inp rec code first count (repeated_form w) p = skim_pairs inp rec code first count w (suc (length inp - p.at)) p
skim_form inp rec code first count tuple_form p = skim_fields rec first count p
skim_form inp rec code first count unknown p = Err BadSchemaTable

unfoldable pub skim_node : List ℕ → List ℕ → Skimmer → ℕ → SkipPos → Result SkipPos Refusal
skim_node sch inp rec i p = skim_form inp rec (node_at sch i).code (node_at sch i).first (node_at sch i).children (form (node_at sch i).code) p

-- a node: the row is charged when it begins, before any byte of it, and its children have one level less
unfoldable pub skim : List ℕ → List ℕ → ℕ → ℕ → Skimmer
skim sch inp charge zero i p = Err TooDeep
skim sch inp charge (suc depth) i p = do
  q ← skim_charge charge p.at p
  skim_node sch inp (skim sch inp charge depth) i (counted q)
