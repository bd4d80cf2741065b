-- Steps of a walk that passes values and builds none, over the code's own position and allowance, and what it makes of nodes without children.
-- Assumes nothing: these are definitions.
use Rattle.rules.specs.declared.refusal.Refusal.{Refusal}
use Rattle.std.specs.Prelude.{ℕ, ◌+◌, ◌-◌, ◌^◌, ◌≤◌, ◌<◌, List, length, ltb, leb, Result, Ok, Err}
use Rattle.rules.specs.Choice.{pick}
use Rattle.rules.specs.Wire.{form, width_of}
use Rattle.rules.specs.Refusals.{Truncated, BlobTooLarge}
use Rattle.leaves.specs.Budget.{spent, longest}
use Rattle.leaves.specs.Fields.{read_number_at, payload_of_fixed}
use Rattle.leaves.specs.declared.budget.RowBudget.{RowBudget}
use Rattle.leaves.specs.declared.leaf.SkipPos.{SkipPos}

-- a position that a leaf may be read from: in an input of less than 2 ^ 32 bytes; payload bytes were passed, so that their count does not wrap
pub record Readable (inp : List ℕ) (p : SkipPos) : Type 0 where
  pub within : p.at ≤ length inp
  pub short : length inp < 2 ^ 32
  pub passed : p.payload ≤ p.at

-- ---- steps

abbrev pub standing : ℕ → RowBudget → ℕ → ℕ → SkipPos
standing at budget records payload = record { at = at; budget = budget; records = records; payload = payload }

-- a step and what follows where it is accepted; a refusal is handed up
infixl 20 ◌>>=◌
unfoldable pub ◌>>=◌ : Result SkipPos Refusal → (SkipPos → Result SkipPos Refusal) → Result SkipPos Refusal
(Ok p) >>= k = k p
(Err r) >>= k = Err r

-- what follows a number that was read
unfoldable pub reading : Result (ℕ × ℕ) Refusal → SkipPos → (ℕ → SkipPos → Result SkipPos Refusal) → Result SkipPos Refusal
reading (Ok (n, next)) p k = k n (standing next p.budget p.records p.payload)
reading (Err r) p k = Err r

-- n bytes, or 12 at the cut field
unfoldable pub bytes_past : List ℕ → ℕ → ℕ → SkipPos → Result SkipPos Refusal
bytes_past inp n context p =
    pick (leb n (length inp - p.at)) (Ok (standing (p.at + n) p.budget p.records p.payload))
    (Err (Truncated context p.at))

-- what a charge leaves
unfoldable pub having : SkipPos → Result RowBudget Refusal → Result SkipPos Refusal
having p (Ok b) = Ok (standing p.at b p.records p.payload)
having p (Err r) = Err r

-- `cost` off the allowance, or 13 at `place`
unfoldable pub skim_charge : ℕ → ℕ → SkipPos → Result SkipPos Refusal
skim_charge cost place p = having p (spent p.budget cost place)

-- b payload bytes more
unfoldable pub stored : ℕ → SkipPos → SkipPos
stored b p = standing p.at p.budget p.records (p.payload + b)

-- ---- nodes without children

-- w bytes, of which so many are payload
unfoldable pub skim_bytes : List ℕ → ℕ → ℕ → ℕ → SkipPos → Result SkipPos Refusal
skim_bytes inp w context b p = do
  q ← bytes_past inp w context p
  (Ok (stored b q))

-- a blob: its length, its type's limit (14), the charge for its length (13), its bytes
unfoldable pub skim_blob : List ℕ → ℕ → SkipPos → Result SkipPos Refusal
skim_blob inp code p = reading (read_number_at inp 4 13 p.at) p (λ n q.
    pick (leb n (longest q.budget code))
    (do
      r ← skim_charge n p.at q
      skim_bytes inp n 14 n r)
    (Err (BlobTooLarge code n (longest q.budget code) p.at)))

-- a code below 13, and one below 15
unfoldable pub skim_fixed : List ℕ → ℕ → SkipPos → Result SkipPos Refusal
skim_fixed inp code p = skim_bytes inp (width_of (form code)) code (payload_of_fixed (width_of (form code))) p

unfoldable pub skim_leaf : List ℕ → ℕ → SkipPos → Result SkipPos Refusal
skim_leaf inp code p = pick (ltb code 13) (skim_fixed inp code p) (skim_blob inp code p)
