use Rattle.skiff.proofs.Laws.{seen_given}
use Rattle.skiff.proofs.viewing.skiff2_child_count.Goals as goal

pub returns : goal.returns
returns c = seen_given _ _ _ _ c.child_count_at-viewed.ensures c.give_viewed.ensures
