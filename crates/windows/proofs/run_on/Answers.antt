-- What the window's run counts is added to what was counted before it; its place lies in the window, so that nothing wraps.
-- Assumes nothing.
use mathlib.Core.Path.{ap, ◌∙◌}
use native.Mathlib.Omega.{arith}
use Rattle.rules.specs.Windows.{added}
use Rattle.windows.proofs.Moves.{run_inside, adds_end, adds_refused}
use Rattle.windows.proofs.run_on.Goals as goal

pub overflow_add-rows : goal.overflow_add-rows
overflow_add-rows c = omega (arith, run_inside _ _ _ (λ j. omega (arith, c.type_inv.window j)) _ c.run-ran.ensures)

pub overflow_add-bytes : goal.overflow_add-bytes
overflow_add-bytes c = omega (arith, run_inside _ _ _ (λ j. omega (arith, c.type_inv.window j)) _ c.run-ran.ensures)

pub moved-requires : goal.moved-requires
moved-requires c = let i = run_inside _ _ _ (λ j. omega (arith, c.type_inv.window j)) _ c.run-ran.ensures in (λ l. let h = i.placed _ c.in-Err.is l in omega (arith, h), omega arith)

pub returns-in-Ok : goal.returns-in-Ok
returns-in-Ok c = let i = run_inside _ _ _ (λ j. omega (arith, c.type_inv.window j)) _ c.run-ran.ensures in
    record { value = adds_end _ _ c.in-Ok.is ∙ ap (added _) c.run-ran.ensures; further = omega (arith, i) }

pub returns-in-Err : goal.returns-in-Err
returns-in-Err c = let i = run_inside _ _ _ (λ j. omega (arith, c.type_inv.window j)) _ c.run-ran.ensures in
    record { value = adds_refused _ _ _ _ c.in-Err.is c.moved.ensures ∙ ap (added _) c.run-ran.ensures; further = omega (arith, i, c.requires) }
