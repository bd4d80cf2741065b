-- What the steps over a checked format ask and answer.
-- Assumes nothing: these are definitions.
use Rattle.rules.specs.declared.answer.Extent.{Extent}
use Rattle.rules.specs.declared.refusal.Refusal.{Refusal}
use Rattle.std.specs.Prelude.{ℕ, ◌+◌, ◌^◌, ◌≤◌, ◌<◌, ◌≡◌, true, List, length, Result, Option, Some, Ok, Err}
use Rattle.rules.specs.Block.{records, block}
use Rattle.rules.specs.Format.{Format, format_rules, table_schema}
use Rattle.rules.specs.Walk.{Limits, Got, ◌>>=◌, walk}
use Rattle.rules.specs.Reading.{settings_ok, start, skipped}
use Rattle.rules.specs.declared.settings.Settings.{Settings}
use Rattle.rules.specs.Refusals.{MissingTableSchema, UnknownRegistryReference}
use Rattle.rules.specs.declared.table_record.Located.{Located}
use Rattle.rules.specs.declared.table_record.Located.TheVariants.{NoTable, NoEntry}
use Rattle.leaves.specs.Fields.{read_number_at}
use Rattle.row.specs.declared.steps.RowBlock.{RowBlock}
use Rattle.read.specs.Ready.{Rooted}

-- the door was passed: what was tested before a row is looked at
pub record ThroughDoor (f : Format) (inp : List ℕ) (s : Settings) : Type 0 where
  pub accepted : format_rules f ≡ Ok tt
  pub settings : settings_ok s ≡ true
  pub short : length inp < 2 ^ 32

-- a block of the table along which a row's value may be walked, and a position at which a table tag stands whole
pub record Walkable (table inp : List ℕ) (at first n : ℕ) (s : Settings) : Type 0 where
  pub within : first + n ≤ records table
  pub rooted : Rooted (block table first n) inp s (at + 2)

-- the block of table t, for a row at a position
unfoldable pub row_block_in : ℕ → ℕ → Located → Result RowBlock Refusal
row_block_in at t (Located.Block first n) = Ok (record { tag = t; first = first; count = n })
row_block_in at t NoTable = Err (MissingTableSchema t at)
row_block_in at t NoEntry = Err (UnknownRegistryReference t)

unfoldable pub row_block_by : Format → ℕ → Result (ℕ × ℕ) Refusal → Result RowBlock Refusal
row_block_by f at (Ok (t, next)) = row_block_in at t (table_schema f t)
row_block_by f at (Err r) = Err r

-- the block of the table whose tag stands at a position
abbrev pub row_block_at : Format → List ℕ → ℕ → Result RowBlock Refusal
row_block_at f inp at = row_block_by f at (read_number_at inp 2 17 at)

-- the answer of a step that finds a row or refuses it, among the answers of reading
unfoldable pub a_row : Result Extent Refusal → Result (Option Extent) Refusal
a_row (Ok e) = Ok (Some e)
a_row (Err r) = Err r

-- a row of table t at a position, from the table's block
unfoldable pub row_in : List ℕ → List ℕ → Limits → ℕ → ℕ → ℕ → ℕ → Result (Option Extent) Refusal
row_in table inp lim at t first n = skipped at (do
  (v, r) ← walk (block table first n) inp lim 64 0 (start lim (at + 2))
  Got (t, v) r)
