-- Each number behind the one before.
-- Assumes nothing.
use native.Mathlib.Omega.{arith}
use Rattle.rules.specs.Names.{ascii}
use Rattle.lines.proofs.Putting.{put_both}
use Rattle.texts.specs.Records.{line_front}
use Rattle.texts.proofs.put_front.Goals as goal

pub returns : goal.returns
unfolding line_front ascii
returns c = record { text_put = put_both _ _ _ _ _ _ _ _ c.put_number-next.ensures.text_put (put_both _ _ _ _ _ _ _ _ c.put_number-next-2.ensures.text_put c.put_number.ensures.text_put); upper_bound = omega (arith, c.put_number-next.ensures.upper_bound, c.put_number-next-2.ensures.upper_bound, c.put_number.ensures.upper_bound) }
