use Rattle.rules.specs.Index.{indexed_at}
use Rattle.record.proofs.index_record.index_record_at.Goals as goal

pub returns : goal.returns
unfolding indexed_at
returns c = cc
