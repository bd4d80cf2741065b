use mathlib.Core.List.{[]}
use native.Mathlib.Omega.{arith}
use Rattle.write.proofs.Codes.{no_end, tuple_end, end_8, end_16}
use Rattle.write.proofs.Numbers.{nothing_put, number_room, number_put}
use Rattle.write.proofs.put.put_end.Goals as goal

pub returns-then-code-gt18 : goal.returns-then-code-gt18
returns-then-code-gt18 c = let both = nothing_put _ _ _ (tuple_end _ c.if-code-gt18.true) in
    record { next = both.0; out = both.1 }

pub returns-then-code-lt17 : goal.returns-then-code-lt17
returns-then-code-lt17 c = let both = nothing_put _ _ _ (no_end _ c.if-code-lt17.true) in
    record { next = both.0; out = both.1 }

pub put_number-requires : goal.put_number-requires
put_number-requires c = number_room [] _ _ _ _ (end_8 _ c.if-code-eq17.true) _ c.requires.2

pub returns-then-code-eq17 : goal.returns-then-code-eq17
returns-then-code-eq17 c = let both = number_put _ _ _ _ _ (end_8 _ c.if-code-eq17.true) _ c.put_number.ensures in
    record { next = both.0; out = both.1 }

pub put_number-requires-2 : goal.put_number-requires-2
put_number-requires-2 c = number_room [] _ _ _ _ (end_16 _ (omega (arith, c.if-code-eq17.false, c.if-code-lt17.false, c.if-code-gt18.false))) _ c.requires.2

pub returns : goal.returns
returns c = let both = number_put _ _ _ _ _ (end_16 _ (omega (arith, c.if-code-eq17.false, c.if-code-lt17.false, c.if-code-gt18.false))) _ c.put_number-2.ensures in
    record { next = both.0; out = both.1 }
