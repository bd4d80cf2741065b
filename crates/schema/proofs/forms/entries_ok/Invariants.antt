use mathlib.Core.Path.{◌≡◌}
use mathlib.Core.Bool.{true}
use mathlib.Core.List.{[]}
use Rattle.rules.specs.Choice.{all}
use Rattle.rules.specs.Format.{entry_ok}
use Rattle.schema.specs.Slices.{slices}
use Rattle.schema.proofs.forms.entries_ok.Given as goal

abbrev pub invariant-loop-j : goal.invariant-loop-j
invariant-loop-j l = all (entry_ok (slices l.table l.names [] l.registry)) l.j ≡ true
