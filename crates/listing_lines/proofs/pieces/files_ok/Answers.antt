-- By the tests.
-- Assumes nothing.
use native.Mathlib.Omega.{arith}
use Rattle.rules.specs.Choice.{◌and◌}
use Rattle.rules.specs.Listing.{files_ok}
use Rattle.listing_lines.proofs.pieces.files_ok.Goals as goal

pub returns-then-names-le-FILE_BYTES : goal.returns-then-names-le-FILE_BYTES
unfolding files_ok ◌and◌
returns-then-names-le-FILE_BYTES c = grind arith

pub returns-else-names-le-FILE_BYTES : goal.returns-else-names-le-FILE_BYTES
unfolding files_ok ◌and◌
returns-else-names-le-FILE_BYTES c = grind arith
