-- By the kind.
-- Assumes nothing.
use native.Mathlib.Omega.{arith}
use Rattle.text_hex.proofs.Texts.{number_few}
use Rattle.texts.proofs.Records.{put_integer_payload, put_blob_payload}
use Rattle.texts.proofs.put_payload.Goals as goal

pub put_signed-requires : goal.put_signed-requires
put_signed-requires c = let w = c.requires.1 c.if-kind-lt8.true in
    let l = number_few _ (λ j. omega (arith, c.type_inv.payload j)) w.0 in
    (w.0, w.1, omega (arith, l, c.requires.0))

pub returns-then-kind-lt8 : goal.returns-then-kind-lt8
returns-then-kind-lt8 c = let w = c.requires.1 c.if-kind-lt8.true in
    let l = number_few _ (λ j. omega (arith, c.type_inv.payload j)) w.0 in
    record { text_put = put_integer_payload _ _ _ _ _ _ c.if-kind-lt8.true c.put_signed.ensures; upper_bound = omega (arith, l, c.put_signed.ensures.ends) }

pub returns : goal.returns
returns c = record { text_put = put_blob_payload _ _ _ _ _ _ c.if-kind-lt8.false c.put_hex_bytes.ensures.text_put; upper_bound = omega (arith, c.put_hex_bytes.ensures.upper_bound) }
