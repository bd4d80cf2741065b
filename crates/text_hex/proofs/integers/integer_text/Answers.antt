-- In the order of the tests.
-- Assumes nothing.
use native.Mathlib.Omega.{arith}
use Rattle.rules.specs.Reading.{room}
use Rattle.text_hex.proofs.Texts.{no_integer, no_text_room, text_put}
use Rattle.text_hex.proofs.integers.integer_text.Goals as goal

pub returns-then-width-eq0 : goal.returns-then-width-eq0
returns-then-width-eq0 c = no_integer _ _ (λ h. absurd (omega (arith, h, c.if-width-eq0.true)))

pub returns-then-width-gt-WIDEST : goal.returns-then-width-gt-WIDEST
returns-then-width-gt-WIDEST c = no_integer _ _ (λ h. c.if-width-gt-WIDEST.true)

pub returns-then-room_in-needed : goal.returns-then-room_in-needed
unfolding room
returns-then-room_in-needed c = no_text_room _ _ (omega (arith, c.if-width-eq0.false)) c.if-width-gt-WIDEST.false _ c.signed_length-needed.ensures (omega (arith, c.if-room_in-needed.true, c.room_in.ensures))

pub put_signed-requires : goal.put_signed-requires
put_signed-requires c = (omega (arith, c.if-width-eq0.false), c.if-width-gt-WIDEST.false, omega (arith, c.if-room_in-needed.false, c.room_in.ensures, c.signed_length-needed.ensures))

pub returns : goal.returns
unfolding room
returns c = text_put _ _ (omega (arith, c.if-width-eq0.false)) c.if-width-gt-WIDEST.false _ c.signed_length-needed.ensures (omega (arith, c.if-room_in-needed.false, c.room_in.ensures)) _ c.put_signed.ensures.holds
