use Rattle.rules.specs.Reading.{limits}
use Rattle.judge.proofs.Columns.{Along}
use Rattle.judge.proofs.flat.flat_row.Given as goal

abbrev pub invariant-loop-i : goal.invariant-loop-i
invariant-loop-i l = Along l.block l.records l.payload (limits l.settings) l.count l.q l.i
