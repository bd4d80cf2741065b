-- By the kind, in the order of the tests.
-- Assumes nothing.
use Prim.Native.Nat.{◌+◌}
use mathlib.Core.Path.{sym, ◌∙◌}
use native.Mathlib.Omega.{arith}
use Rattle.std.proofs.lemmas.List.Edits.{length-between}
use Rattle.rules.specs.Names.{ascii}
use Rattle.texts.proofs.Records.{kept_is, payload_slice, put_stored, put_count, put_nothing, put_truth, put_the_number}
use Rattle.texts.proofs.put_content.Goals as goal

pub put_payload-requires : goal.put_payload-requires
put_payload-requires c =
    let h = sym c.is_stored.ensures ∙ c.if-is_stored.true in
    let w = c.requires.1.stored h in
    let n = length-between c.args.store.now c.args.r.content (c.args.r.content + c.args.r.size) w.within in
    (omega (arith, n, kept_is c.args.r h, c.requires.0), λ k. let f = w.integer k in (omega (arith, n, f.0), omega (arith, n, f.1)))

pub returns-then-is_stored : goal.returns-then-is_stored
returns-then-is_stored c =
    let h = sym c.is_stored.ensures ∙ c.if-is_stored.true in
    let w = c.requires.1.stored h in
    let n = length-between c.args.store.now c.args.r.content (c.args.r.content + c.args.r.size) w.within in
    let e = payload_slice c.args.r.kind c.args.store.now c.args.r.content c.args.r.size w.within in
    record { text_put = put_stored _ _ _ _ _ _ h (rw e at c.put_payload.ensures.text_put); upper_bound = omega (arith, n, kept_is c.args.r h, c.put_payload.ensures.upper_bound) }

pub returns-then-kind-gt14 : goal.returns-then-kind-gt14
returns-then-kind-gt14 c = record { text_put = put_count _ _ _ _ _ _ (sym c.is_stored.ensures ∙ c.if-is_stored.false) c.if-kind-gt14.true c.put_number.ensures.text_put; upper_bound = omega (arith, c.put_number.ensures.upper_bound) }

pub returns-then-kind-eq0 : goal.returns-then-kind-eq0
unfolding ascii
returns-then-kind-eq0 c = record { text_put = put_nothing _ _ _ _ _ _ (sym c.is_stored.ensures ∙ c.if-is_stored.false) c.if-kind-gt14.false c.if-kind-eq0.true c.put_text.ensures; upper_bound = omega (arith, c.put_text.ensures.ends) }

pub returns-then-kind-eq1 : goal.returns-then-kind-eq1
returns-then-kind-eq1 c = record { text_put = put_truth _ _ _ _ _ _ (sym c.is_stored.ensures ∙ c.if-is_stored.false) c.if-kind-gt14.false c.if-kind-eq0.false c.if-kind-eq1.true c.put_number-then-kind-eq1.ensures.text_put; upper_bound = omega (arith, c.put_number-then-kind-eq1.ensures.upper_bound) }

pub put_bits-requires : goal.put_bits-requires
put_bits-requires c = (omega (arith, c.requires.0), c.requires.1.number (sym c.is_stored.ensures ∙ c.if-is_stored.false) (omega (arith, c.if-kind-eq1.false, c.if-kind-eq0.false)) (omega (arith, c.if-kind-gt14.false)))

pub returns : goal.returns
returns c = record { text_put = put_the_number _ _ _ _ _ _ (sym c.is_stored.ensures ∙ c.if-is_stored.false) c.if-kind-gt14.false c.if-kind-eq0.false c.if-kind-eq1.false c.put_bits.ensures.text_put; upper_bound = omega (arith, c.put_bits.ensures.upper_bound) }
