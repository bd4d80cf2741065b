-- What the steps of decode over a checked format ask and answer.
-- Assumes nothing: these are definitions.
use Rattle.std.specs.Prelude.{ℕ, ◌+◌, ◌≤◌, List, length, Result, Option, Some, Ok, Err, ⊤}
use Rattle.rules.specs.declared.answer.Extent.{Extent}
use Rattle.rules.specs.declared.refusal.Refusal.{Refusal}
use Rattle.rules.specs.Block.{records, block}
use Rattle.fill.specs.Filling.{Fillable}

-- what was tested before a row is filled in: that its table's block lies in the record table; that a row stands there; that slices of n and m
-- bytes have room for it
pub record Granted (table inp : List ℕ) (at first count n m : ℕ) : Type 0 where
  pub within : first + count ≤ records table
  pub tag : at + 2 ≤ length inp
  pub fills : Fillable (block table first count) inp (at + 2) n m

-- the answer of the test for a row's room, among the answers of reading: the row, or why it has none
unfoldable pub given_room : Extent → Result ⊤ Refusal → Result (Option Extent) Refusal
given_room e (Ok tt) = Ok (Some e)
given_room e (Err r) = Err r
