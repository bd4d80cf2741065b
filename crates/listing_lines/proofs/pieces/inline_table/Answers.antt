-- Byte by byte.
-- Assumes nothing.
use mathlib.Core.Path.{refl}
use Rattle.rules.specs.Bytes.{le}
use Rattle.rules.specs.Rows.{one_table}
use Rattle.listing_lines.proofs.pieces.inline_table.Goals as goal

pub returns : goal.returns
unfolding one_table le
returns c = (refl, refl)
