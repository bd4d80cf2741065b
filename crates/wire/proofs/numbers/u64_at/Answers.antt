use Prim.Native.Nat.{◌+◌, ◌*◌, ◌^◌, ◌<◌}
use native.Mathlib.Omega.{arith}
use Rattle.wire.proofs.Fields.{read_parts, parts_fit}
use Rattle.wire.proofs.numbers.u64_at.Goals as goal

pub overflow_mul-result : goal.overflow_mul-result
overflow_mul-result c = let fits_here : c.u32_at.result + 256 ^ 4 * c.u32_at-2.result < 256 ^ 8 = parts_fit _ _ _ 4 4 _ _ c.u32_at.ensures c.u32_at-2.ensures (omega arith) (λ i. (c.type_inv.s i).fits) (omega arith) in
    omega (arith, fits_here)

pub overflow_add-result : goal.overflow_add-result
overflow_add-result c = let fits_here : c.u32_at.result + 256 ^ 4 * c.u32_at-2.result < 256 ^ 8 = parts_fit _ _ _ 4 4 _ _ c.u32_at.ensures c.u32_at-2.ensures (omega arith) (λ i. (c.type_inv.s i).fits) (omega arith) in
    omega (arith, fits_here)

pub returns : goal.returns
returns c = read_parts _ _ _ 4 4 _ _ c.u32_at.ensures c.u32_at-2.ensures (omega arith)
