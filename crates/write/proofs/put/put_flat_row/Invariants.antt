use Rattle.write.proofs.RowColumns.{Columns}
use Rattle.write.proofs.put.put_flat_row.Given as goal

abbrev pub invariant-loop-i : goal.invariant-loop-i
invariant-loop-i l = Columns l.block l.records l.payload l.start l.size l.initial.out l.out l.q l.i
