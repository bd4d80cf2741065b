use mathlib.Core.List.{[]}
use native.Mathlib.Omega.{arith}
use Rattle.write.proofs.Codes.{no_tag, tag_number}
use Rattle.write.proofs.Numbers.{nothing_put, number_room, number_put}
use Rattle.write.proofs.put.put_tag.Goals as goal

pub returns-then-code-gt18 : goal.returns-then-code-gt18
returns-then-code-gt18 c = let both = nothing_put _ _ _ (no_tag _ _ c.if-code-gt18.true) in
    record { next = both.0; out = both.1 }

pub put_number-requires : goal.put_number-requires
put_number-requires c = number_room [] _ _ _ _ (tag_number _ _ _ c.if-code-gt18.false c.tag_width-width.ensures) _ c.requires.2

pub overflow_add-result : goal.overflow_add-result
overflow_add-result c = omega (arith, number_room [] _ _ _ _ (tag_number _ _ _ c.if-code-gt18.false c.tag_width-width.ensures) _ c.requires.2, c.well_formed)

pub returns : goal.returns
returns c = let both = number_put _ _ _ _ _ (tag_number _ _ _ c.if-code-gt18.false c.tag_width-width.ensures) _ c.put_number.ensures in
    record { next = both.0; out = both.1 }
