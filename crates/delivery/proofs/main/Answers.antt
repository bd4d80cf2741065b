-- The array's length is stated over any count, so that nothing is computed at this one.
-- Assumes nothing.
use Rattle.rules.proofs.Stands.{length_zeros}
use Rattle.delivery.proofs.main.Goals as goal

pub slice_bounds-deliver-end : goal.slice_bounds-deliver-end
slice_bounds-deliver-end c = length_zeros 4194304
