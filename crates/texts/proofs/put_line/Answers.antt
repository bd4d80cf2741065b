-- Each text behind the one before.
-- Assumes nothing.
use native.Mathlib.Omega.{arith}
use Rattle.rules.specs.Names.{ascii}
use Rattle.lines.proofs.Putting.{put_both}
use Rattle.texts.proofs.Records.{put_the_line}
use Rattle.texts.proofs.put_line.Goals as goal

pub returns : goal.returns
unfolding ascii
returns c = record { text_put = put_the_line _ _ _ _ _ _ _ _ _ c.kind_word-kind.ensures.0 (put_both _ _ _ _ _ _ _ _ c.put_front-next.ensures.text_put (put_both _ _ _ _ _ _ _ _ (put_both _ _ _ _ _ _ _ _ c.put_text-next.ensures c.put_word-next.ensures.text_put) (put_both _ _ _ _ _ _ _ _ (put_both _ _ _ _ _ _ _ _ c.put_text-next-2.ensures c.put_content-next.ensures.text_put) c.put_text.ensures))); upper_bound = omega (arith, c.put_front-next.ensures.upper_bound, c.put_text-next.ensures.ends, c.put_word-next.ensures.upper_bound, c.kind_word-kind.ensures.1, c.put_text-next-2.ensures.ends, c.put_content-next.ensures.upper_bound, c.put_text.ensures.ends) }
