-- The item, by the label's words.
-- Assumes nothing.
use borrow.Author.Rules.{rules}
use Rattle.lines.proofs.Putting.{put_item_is}
use Rattle.lines.proofs.put_labelled.Goals as goal

pub returns : goal.returns
returns c = record { text_put = put_item_is _ _ _ _ _ _ _ _ _ _ c.label_word-name.ensures.0 c.word_of-text.ensures.0 c.put_item.ensures.text_put; upper_bound = search rules }
