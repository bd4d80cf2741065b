-- What a node comes to at once.
-- Assumes nothing: these are definitions.
use Rattle.std.specs.Prelude.{ℕ, ◌<◌, ◌≡◌, List, length, Option, Some, None}
use Rattle.rules.specs.Block.{node_at}
use Rattle.rules.specs.ValueRecord.{value_record_at}
use Rattle.write.specs.Putting.{Writable, Placed}
use Rattle.write.specs.declared.put.WritePos.{WritePos}

module _ (sch : List ℕ) (i depth : ℕ) (table store : List ℕ) (p : WritePos) (out : List ℕ) where
  -- a leaf from q on is all that is left to put of the value of node i from p on: out stood there, and out' stands there now
  pub record Left (out' : List ℕ) (code size content : ℕ) (q : WritePos) : Type 0 where
    pub node : ℕ
    pub level : ℕ
    pub is : code ≡ (node_at sch node).code
    pub leaf : code < 15
    pub has_size : size ≡ (value_record_at table q.at).size
    pub has_content : content ≡ (value_record_at table q.at).content
    pub may : Writable sch node level table store q (length out')
    pub places : (r : WritePos) (out'' : List ℕ) → Placed sch node level table store q r out' out'' → Placed sch i depth table store p r out out''

  -- a leaf that is all that is left, or a node with children, of which nothing is put yet
  unfoldable pub LeadsToPut : List ℕ → Option (ℕ × ℕ × ℕ × WritePos) → Type 0
  LeadsToPut out' (Some (code, size, content, q)) = Left out' code size content q
  LeadsToPut out' None = (14 < (node_at sch i).code) × (out' ≡ out)
