-- What a record says, by the tests that the code makes.
-- Assumes nothing.
use Rattle.rules.specs.declared.refusal.Refusal.{Refusal}
use Rattle.std.proofs.Common.{Result, Ok, Err}
use Prim.Native.Nat.{ℕ, ◌^◌, ◌≤◌, ◌<◌}
use mathlib.Core.Path.{◌≡◌}
use mathlib.Core.Bool.{true}
use mathlib.Core.List.{List}
use native.Mathlib.Omega.{arith}
use native.Mathlib.Nat.{pow-le-pow_right}
use borrow.Author.Tests.{lt-ltb, ltb-true, leb-true}
use lib.ListN.{length}
use mir.Syntax.{w64}
use mir.Val.{SFits}
use Rattle.rules.specs.Choice.{pick}
use Rattle.rules.specs.Wire.{fixed, form}
use Rattle.rules.specs.Query.{scalar_alone, record_alone, record_there, record_good, record_seen, signed}
use Rattle.rules.specs.declared.table_record.ValueRecord.{ValueRecord}
use Rattle.rules.proofs.Tests.{and_both, either}
use Rattle.rules.proofs.Signed.{signed_is}

-- ---- two's complement

-- either half is a number of 64 bits
pub signed_fits : (w x : ℕ) → w ≤ 8 → x < 256 ^ w → SFits w64 (signed w x)
signed_fits w x h l =
    let most : 256 ^ w ≤ 256 ^ 8 = pow-le-pow_right (omega arith) h in
    signed_is w x l (SFits w64) (λ k. record { sfits = omega (arith, most, k) }) (λ k. record { sfits = omega (arith, most, k, l) })

-- ---- what a record that was seen is known for

unfoldable Known : List ℕ → ℕ → Result ValueRecord Refusal → Type 0
Known table i (Ok r) = (record_there table i ≡ true) × (record_alone r ≡ true)
Known table i (Err r) = Unit

known : (table : List ℕ) (i : ℕ) → Known table i (record_seen table i)
unfolding Known record_good record_seen
known table i = either (Known table i) _ (λ t. either (Known table i) _ (λ g. (t, (and_both _ _ g).1)) (λ g. tt)) (λ t. tt)

module _ (table : List ℕ) (i : ℕ) (s : Result ValueRecord Refusal) (r : ValueRecord) (e : s ≡ record_seen table i) (b : s ≡ Ok r) where
  -- it is right by itself
  pub seen_alone : record_alone r ≡ true
  unfolding Known
  seen_alone = (rw (← e, b) at (known table i)).1

  -- and is there, in a slice that is not too long
  pub seen_short : length table ≤ 4294967295
  unfolding Known record_there
  seen_short = leb-true _ _ (and_both _ _ (rw (← e, b) at (known table i)).0).0

-- a scalar's record too
pub scalar_alone_lem : (r : ValueRecord) → record_alone r ≡ true → r.kind < 15 → scalar_alone (form r.kind) r.size r.content ≡ true
unfolding record_alone pick
scalar_alone_lem r e l = rw (lt-ltb r.kind 15 l) at (and_both _ _ e).1

-- a number fits its width
pub number_fits : (k w size content : ℕ) → form k ≡ fixed w → scalar_alone (form k) size content ≡ true → content < 256 ^ w
unfolding scalar_alone
number_fits k w size content f e = ltb-true content (256 ^ w) (and_both _ _ (rw f at e)).1
