-- Each part behind the one before.
-- Assumes nothing.
use borrow.Author.Rules.{rules}
use Rattle.rules.specs.Names.{ascii}
use Rattle.lines.specs.Puts.{head}
use Rattle.lines.proofs.Putting.{put_both}
use Rattle.lines.proofs.put_head.Goals as goal

pub returns : goal.returns
unfolding head ascii
returns c = record { text_put = put_both _ _ _ _ _ _ _ _ c.put_number-next.ensures.text_put (put_both _ _ _ _ _ _ _ _ c.put_text-next.ensures (put_both _ _ _ _ _ _ _ _ c.put_word-next.ensures.text_put c.put_carried.ensures.text_put)); upper_bound = search rules }
