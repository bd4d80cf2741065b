-- Each text and number behind the one before.
-- Assumes nothing.
use native.Mathlib.Omega.{arith}
use Rattle.rules.specs.Names.{ascii}
use Rattle.lines.proofs.Putting.{put_both}
use Rattle.texts.proofs.Records.{put_refusal}
use Rattle.texts.proofs.put_refusal_line.Goals as goal

pub returns : goal.returns
unfolding ascii
returns c = record { text_put = put_refusal _ _ _ _ _ c.in_numbers-report.ensures (put_both _ _ _ _ _ _ _ _ c.put_number-next.ensures.text_put (put_both _ _ _ _ _ _ _ _ c.put_number-next-2.ensures.text_put c.put_text.ensures)); upper_bound = omega (arith, c.put_number-next.ensures.upper_bound, c.put_number-next-2.ensures.upper_bound, c.put_text.ensures.ends) }
