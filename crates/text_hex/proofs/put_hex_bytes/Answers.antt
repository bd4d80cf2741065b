-- By whether there are some.
-- Assumes nothing.
use mathlib.Core.Path.{sym, ◌∙◌}
use native.Mathlib.Omega.{arith}
use borrow.Author.Tests.{eqb-true, eqb-false}
use Rattle.rules.specs.Names.{ascii}
use Rattle.text_hex.proofs.Putting.{put_no_bytes, put_some_bytes}
use Rattle.text_hex.proofs.put_hex_bytes.Goals as goal

pub returns-then-is_empty : goal.returns-then-is_empty
unfolding ascii
returns-then-is_empty c = record { text_put = put_no_bytes _ _ _ _ _ (eqb-true _ _ (sym c.is_empty.ensures ∙ c.if-is_empty.true)) c.put_text.ensures; upper_bound = omega (arith, c.put_text.ensures.ends) }

pub returns : goal.returns
returns c = record { text_put = put_some_bytes _ _ _ _ _ (eqb-false _ _ (sym c.is_empty.ensures ∙ c.if-is_empty.false)) c.put_hex.ensures.text_put; upper_bound = omega (arith, c.put_hex.ensures.value) }
