use Rattle.std.proofs.Common.{rules}
use Rattle.reads.proofs.Filled.{filled_more, consumes_more}
use Rattle.reads.proofs.filling.read_full.Goals as goal

pub loop-done-preserved : goal.loop-done-preserved
loop-done-preserved g c =
    let l = c.loop-done in
    record {
      in_bounds = search rules;
      bytes = search rules;
      taken = rw (filled_more _ _ _ _ _ l.invariant.in_bounds c.in-Ok.ensures.bound.0) (consumes_more _ _ _ _ _ l.invariant.taken c.in-Ok.ensures.bytes.0);
    }
