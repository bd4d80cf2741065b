use Rattle.wire.proofs.Fields.{write_parts}
use Rattle.wire.proofs.store.put64.Goals as goal

pub returns : goal.returns
returns c = let first = c in
    write_parts _ _ _ _ 4 4 _ first.put32.ensures c.put32-2.ensures
