-- What a value record has to say where it stands, but for its children: of its fields alone, so that no value is built.
-- Assumes nothing: these are definitions.
use Rattle.std.specs.Prelude.{ℕ, ◌-◌, ◌^◌, Bool, true, false, ltb, leb, eqb}
use Rattle.rules.specs.Choice.{pick, ◌and◌}
use Rattle.rules.specs.Wire.{Form, empty, truth, fixed, raw, sized, variant_form, repeated_form, tuple_form, unknown, form}
use Rattle.rules.specs.Query.{scalar_alone, parent_alone}
use Rattle.rules.specs.declared.table_record.ValueRecord.{ValueRecord}

-- the tag of a node: any where its parent chose it by a tag, else 0
unfoldable pub tag_ok : Bool → ℕ → Bool
tag_ok true tag = true
tag_ok false tag = eqb tag 0

-- a payload of this length and start, with `from` payload bytes before it and `store` in all
unfoldable pub stored_ok : ℕ → ℕ → ℕ → ℕ → Bool
stored_ok size content from store = eqb content from and leb size (store - from)

-- how many payload bytes a scalar has that is no blob
unfoldable pub own_size : Form → ℕ
own_size empty = 0
own_size truth = 0
own_size (fixed w) = 0
own_size (raw w) = w
own_size sized = 0
own_size (variant_form w) = 0
own_size (repeated_form w) = 0
own_size tuple_form = 0
own_size unknown = 0

-- the largest number that its data field may hold: a payload's start may be any
unfoldable pub most_content : Form → ℕ
most_content empty = 0
most_content truth = 1
most_content (fixed w) = 256 ^ w - 1
most_content (raw w) = 2 ^ 64 - 1
most_content sized = 2 ^ 64 - 1
most_content (variant_form w) = 0
most_content (repeated_form w) = 0
most_content tuple_form = 0
most_content unknown = 0

-- the scalars that have their bytes in the payload store
unfoldable pub has_payload : Form → Bool
has_payload empty = false
has_payload truth = false
has_payload (fixed w) = false
has_payload (raw w) = true
has_payload sized = true
has_payload (variant_form w) = false
has_payload (repeated_form w) = false
has_payload tuple_form = false
has_payload unknown = false

-- a scalar of this form: right by itself, and its payload where it belongs
unfoldable pub scalar_ok : Form → ℕ → ℕ → ℕ → ℕ → Bool
scalar_ok f size content from store = scalar_alone f size content and pick (has_payload f) (stored_ok size content from store) true

-- a record
unfoldable pub value_record_ok : ValueRecord → Bool → ℕ → ℕ → Bool
value_record_ok r tagged from store =
    (eqb r.spare 0 and tag_ok tagged r.tag)
    and pick (ltb r.kind 15) (scalar_ok (form r.kind) r.size r.content from store) (parent_alone r.kind r.size r.content)
