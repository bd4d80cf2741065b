-- The check of a value table: 1 for a slice that is too long, 18 where records and payload store are no value's table.
-- Assumes nothing: these are definitions.
use Rattle.rules.specs.declared.refusal.Refusal.{Refusal}
use Rattle.std.specs.Prelude.{ℕ, List, Result, Ok, Err, ⊤}
use Rattle.rules.specs.Choice.{pick, ◌and◌}
use Rattle.rules.specs.Refusals.{Setting, BadValueTable}
use Rattle.rules.specs.Format.{short_ok}
use Rattle.rules.specs.Value.{Value}
use Rattle.rules.specs.ValueTable.{Parsed, Whole, Broken, table_value}

-- the table of a value is accepted, whatever the value; all else is refused by 18
unfoldable pub form_checked : Parsed Value → Result ⊤ Refusal
form_checked (Whole v q) = Ok tt
form_checked Broken = Err BadValueTable

-- the form of records and payload store
unfoldable pub table_form : List ℕ → List ℕ → Result ⊤ Refusal
table_form records payload = form_checked (table_value records payload)

-- the whole call: a slice that is too long (1), then the form
unfoldable pub value_table_rule : List ℕ → List ℕ → Result ⊤ Refusal
value_table_rule records payload = pick (short_ok records and short_ok payload) (table_form records payload) (Err Setting)
