-- A block that passes at once: form and rules are asked of each record in turn, in one loop.
-- Assumes nothing: these are definitions.
use Rattle.rules.specs.declared.refusal.Refusal.{Refusal}
use Rattle.std.specs.Prelude.{ℕ, ◌+◌, Bool, true, false, List, length, leb, Result, Ok, Err, ⊤}
use Rattle.rules.specs.Choice.{◌and◌}
use Rattle.rules.specs.Refusals.{in_order}
use Rattle.rules.specs.Block.{records, whole_nodes, block, block_ok}
use Rattle.rules.specs.SchemaRules.{rule_at}

unfoldable pub is_accepted : Result ⊤ Refusal → Bool
is_accepted (Ok tt) = true
is_accepted (Err r) = false

-- every record keeps the rules, and the block has the form
unfoldable pub passing : List ℕ → ℕ → ℕ → Bool
passing s store base = is_accepted (in_order (rule_at s base) 0 (records s)) and block_ok s store

-- a block of few records that lies in its table and passes: its depth needs no test
unfoldable pub passes_at_once : List ℕ → List ℕ → ℕ → ℕ → Bool
passes_at_once table names first n =
    whole_nodes table and leb n 64 and leb (first + n) (records table) and passing (block table first n) (length names) first
