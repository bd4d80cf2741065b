use Rattle.index.proofs.Passes.{Comparing}
use Rattle.index.proofs.records.compare_records.Given as goal

abbrev pub invariant-loop-i : goal.invariant-loop-i
invariant-loop-i l = Comparing l.format l.settings l.input l.index l.count l.at l.i
