-- An array's length is stated over any count, so that nothing is computed at this one.
-- Assumes nothing.
use Rattle.rules.proofs.Stands.{length_zeros}
use Rattle.replay.proofs.main.Goals as goal

pub slice_bounds-answer_all-end : goal.slice_bounds-answer_all-end
slice_bounds-answer_all-end c = length_zeros 4194304

pub slice_bounds-answer_all-end-2 : goal.slice_bounds-answer_all-end-2
slice_bounds-answer_all-end-2 c = length_zeros 4096
