use Rattle.skiff.proofs.Laws.{seen_given}
use Rattle.skiff.proofs.viewing.skiff2_kind.Goals as goal

pub returns : goal.returns
returns c = seen_given _ _ _ _ c.kind_at-viewed.ensures c.give_viewed.ensures
