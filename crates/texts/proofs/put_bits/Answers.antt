-- By the kind.
-- Assumes nothing.
use native.Mathlib.Omega.{arith}
use Rattle.texts.proofs.Records.{put_signed, put_unsigned, put_double}
use Rattle.texts.proofs.put_bits.Goals as goal

pub signed-requires : goal.signed-requires
signed-requires c = (omega (arith, c.code_width.ensures.0, c.requires.1.narrow), rw c.code_width.ensures.0 c.requires.1.fits)

pub returns-then-kind-lt8 : goal.returns-then-kind-lt8
returns-then-kind-lt8 c = record { text_put = put_signed _ _ _ _ _ _ c.requires.1 c.if-kind-lt8.true _ c.code_width.ensures.0 _ c.signed.ensures c.put_integer.ensures.text_put; upper_bound = c.put_integer.ensures.upper_bound }

pub returns-then-kind-lt12 : goal.returns-then-kind-lt12
returns-then-kind-lt12 c = record { text_put = put_unsigned _ _ _ _ _ _ c.if-kind-lt8.false c.if-kind-lt12.true c.put_number.ensures.text_put; upper_bound = omega (arith, c.put_number.ensures.upper_bound) }

pub returns : goal.returns
returns c = record { text_put = put_double _ _ _ _ _ _ c.if-kind-lt12.false c.put_hex_number.ensures.text_put; upper_bound = omega (arith, c.put_hex_number.ensures.value) }
