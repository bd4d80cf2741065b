-- What the second pass over a stream asks and answers.
-- Assumes nothing: these are definitions.
use Rattle.std.specs.Prelude.{ℕ, ◌≤◌, ◌≡◌, Bool, List, eqb, take, Option, Ok, Some, None}
use Rattle.rules.specs.Choice.{pick, ◌and◌}
use Rattle.rules.specs.Bytes.{part}
use Rattle.rules.specs.Format.{Format}
use Rattle.rules.specs.Reading.{row_count, byte_count, run_rule}
use Rattle.rules.specs.Index.{index_record_start, is_index_of}
use Rattle.rules.specs.declared.settings.Settings.{Settings}
use Rattle.rules.specs.declared.answer.RowSpan.{RowSpan}

module _ (f : Format) (s : Settings) (inp : List ℕ) where
  -- the run went to the stream's end, over `count` rows or more, and an index of n bytes holds as many records
  pub record Comparable (count n : ℕ) : Type 0 where
    pub ended : (run_rule f s inp).stop ≡ Ok tt
    pub few : count ≤ row_count (run_rule f s inp).rows
    pub within : index_record_start count ≤ n

  -- the run went to the stream's end, row `first` begins at `start`, and an index of n bytes has room for all records
  pub record Writable (first start n : ℕ) : Type 0 where
    pub ended : (run_rule f s inp).stop ≡ Ok tt
    pub few : first ≤ row_count (run_rule f s inp).rows
    pub starts : start ≡ byte_count (take first (run_rule f s inp).rows)
    pub within : index_record_start (row_count (run_rule f s inp).rows) ≤ n

-- the first `count` records are those of the first rows, which end so far; or not
unfoldable pub compared_with : List RowSpan → ℕ → List ℕ → Option ℕ
compared_with rows count index = pick (is_index_of (take count rows) (part index 0 (index_record_start count))) (Some (byte_count (take count rows))) None

-- they begin and end alike and are of one table
unfoldable pub same_span : RowSpan → RowSpan → Bool
same_span a b = eqb a.offset b.offset and eqb a.size b.size and eqb a.table b.table
