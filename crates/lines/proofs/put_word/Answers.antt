use mathlib.Core.Path.{◌≡◌}
use lib.ListN.{take}
use Rattle.rules.specs.Lines.{word}
use Rattle.lines.proofs.Putting.{word_take}
use Rattle.lines.proofs.put_word.Goals as goal

pub returns-clause-text_put : goal.returns-clause-text_put
returns-clause-text_put c =
    let n = c.word_length-len.ensures in
    let is : take c.word_length-len.result c.args.text.now ≡ word c.args.text.now = word_take _ _ n.within n.before n.blank in
    rw is at c.put_text.ensures
