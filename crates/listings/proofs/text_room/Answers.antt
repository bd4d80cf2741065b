-- By the law of a repeated byte: counted one by one, they would take more stack than the checker has.
-- Assumes nothing.
use Rattle.rules.proofs.Stands.{length_zeros}
use Rattle.listings.proofs.text_room.Goals as goal

pub returns : goal.returns
returns c = length_zeros 655360
