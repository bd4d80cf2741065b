use native.Mathlib.Omega.{arith}
use Prim.Native.Nat.{◌+◌}
use mathlib.Core.Path.{refl, ◌∙◌}
use Rattle.std.specs.Ordering.{nat_cmp}
use Rattle.std.specs.Cmp.Lexicographic.{slice_cmp}
use Rattle.rules.proofs.Slices.{part-between}
use Rattle.wire.proofs.Compared.{cmp_is_order, heads_equal, heads_less, heads_greater}
use Rattle.wire.proofs.order.order_of.Goals as goal

pub returns-then-head_s-head_t : goal.returns-then-head_s-head_t
returns-then-head_s-head_t c = heads_less _ _ _ _ _ _ (λ i. (c.type_inv.s i).fits) (λ i. (c.type_inv.t i).fits) 4 (omega arith) (omega arith) (omega arith)

pub returns-then-head_t-head_s : goal.returns-then-head_t-head_s
returns-then-head_t-head_s c = heads_greater _ _ _ _ _ _ (λ i. (c.type_inv.s i).fits) (λ i. (c.type_inv.t i).fits) 4 (omega arith) (omega arith) (omega arith)

pub returns-then-la-lt8 : goal.returns-then-la-lt8
returns-then-la-lt8 c = c.by_bytes-then-la-lt8.ensures ∙ heads_equal _ _ _ _ _ _ (λ i. (c.type_inv.s i).fits) (λ i. (c.type_inv.t i).fits) 4 (omega arith) (omega arith) (omega arith)

pub returns : goal.returns
returns c =
    let a = c.args in
    c.cmp.ensures ∙ (λ i. slice_cmp nat_cmp (part-between a.s.now a.a (a.a + a.la) a.la refl c.requires.0 i) (part-between a.t.now a.b (a.b + a.lb) a.lb refl c.requires.1 i)) ∙ cmp_is_order _ _
