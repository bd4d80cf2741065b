use Rattle.wire.proofs.Fields.{write_parts}
use Rattle.wire.proofs.store.put32.Goals as goal

pub returns : goal.returns
returns c = let first = c in
    write_parts _ _ _ _ 2 2 _ first.put16.ensures c.put16-2.ensures
