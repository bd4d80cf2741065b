-- What is decided of a file, by the numbers that reads answer.
-- Assumes nothing: these are definitions.
use Rattle.std.specs.Prelude.{ℕ, zero, suc, Bool, ℤ, pos, negsuc, eqb, ⊤, Result, Ok, Err}
use Rattle.rules.specs.Choice.{pick}
use Rattle.rules.specs.declared.answer.Ran.{Ran}
use Rattle.reads.specs.declared.RunFailure.{RunFailure}
use Rattle.reads.specs.declared.RunFailure.TheVariants.{NoRoom, Unreadable}
use Rattle.reads.specs.declared.TableFailure.{TableFailure}
use Rattle.reads.specs.declared.TableFailure.TheVariants.{TooLong, Unreadable as Failed}

-- At the end of the file a read of one byte answers 0, and the run is told. Where the byte comes, a window that is full has no room for the
-- row, and a window that is not full was left so by a read that failed. Any other answer is a failed read.
unfoldable pub outcome_of : ℤ → Ran → Bool → Result Ran RunFailure
outcome_of (pos zero) ran full = Ok ran
outcome_of (pos (suc zero)) ran full = pick full (Err (NoRoom ran.bytes)) (Err Unreadable)
outcome_of (pos (suc (suc n))) ran full = Err Unreadable
outcome_of (negsuc n) ran full = Err Unreadable

-- a table is whole where one more read answers 0
unfoldable pub whole_at : ℤ → Result ⊤ TableFailure
whole_at (pos zero) = Ok tt
whole_at (pos (suc n)) = Err Failed
whole_at (negsuc n) = Err Failed

-- and has to leave some of the space
unfoldable pub table_read : ℕ → ℕ → ℤ → Result ⊤ TableFailure
table_read end space last = pick (eqb end space) (Err TooLong) (whole_at last)
