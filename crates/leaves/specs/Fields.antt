-- What the readers of fields answer.
-- Assumes nothing: these are definitions.
use Rattle.rules.specs.declared.refusal.Refusal.{Refusal}
use Rattle.std.specs.Prelude.{ℕ, ◌+◌, ◌-◌, List, length, leb, Result, Ok, Err}
use Rattle.rules.specs.Choice.{pick}
use Rattle.rules.specs.Bytes.{le_at}
use Rattle.rules.specs.Refusals.{Truncated}

-- the number in w bytes and the position after it, or 12 at the cut field
unfoldable pub read_number_at : List ℕ → ℕ → ℕ → ℕ → Result (ℕ × ℕ) Refusal
read_number_at inp w context at = pick (leb w (length inp - at)) (Ok ((le_at inp at w), (at + w))) (Err (Truncated context at))

-- of a value's bytes, how many are payload: all, where they are more than the eight of a record
unfoldable pub payload_of_fixed : ℕ → ℕ
payload_of_fixed w = pick (leb w 8) 0 w
