-- A value is written in few bytes: no more than its payload has, and 80 for each record.
-- Assumes nothing.
use Prim.Native.Nat.{ℕ, ◌+◌, ◌*◌, ◌≤◌}
use mathlib.Core.Path.{◌≡◌}
use mathlib.Core.List.{List, [], ◌++◌}
use native.Mathlib.Omega.{arith}
use lib.ListN.{length, length-append}
use Rattle.rules.specs.Bytes.{le}
use Rattle.rules.specs.Wire.{form, width_of, end_tag}
use Rattle.rules.specs.Block.{node_at}
use Rattle.rules.specs.Value.{Value, nothing, boolean, number, wide, blob, variant, repeated, tuple, Items, done, item, Values, none, more, tally, tally_i, tally_v, records_of, payload_of}
use Rattle.rules.specs.Walk.{Limits}
use Rattle.rules.specs.Writing.{Wrote, Put, write, write_i, write_v}
use Rattle.rules.specs.declared.refusal.Refusal.{Refusal}
use Rattle.rules.proofs.Tests.{either}
use Rattle.rules.proofs.Stands.{length-le}
use Rattle.value_laws.proofs.Says.{Any, WroteSays, puts, refuses, then, put, fits, tags}
use Rattle.judge.proofs.Codes.{widest}

-- a weaker property
pub relax : {P Q : List ℕ → Type 0} {R : Refusal → Type 0} {w : Wrote} → WroteSays P R w → ((b : List ℕ) → P b → Q b) → WroteSays Q R w
relax (puts {b = b} h) f = puts (f b h)
relax (refuses h) f = refuses h

module _ (sch : List ℕ) (lim : Limits) where
  -- a tag before two strings
  joined : (w t : ℕ) (x y : List ℕ) → length (le w t ++ (x ++ y)) ≡ w + (length x + length y)
  joined w t x y = simp (length-append, length-le)

  mutual
    unfolding write records_of payload_of tally Any

    short : (v : Value) (i r : ℕ) → WroteSays (λ b. length b + 32 ≤ 80 * records_of v + payload_of v) Any (write sch lim v i r)
    short nothing i r = fits sch lim 0 i r (λ n. tt) (λ q. puts (omega arith))
    short (boolean x) i r = fits sch lim 1 i r (λ n. tt) (λ q. puts (omega arith))
    short (number k x) i r = fits sch lim k i r (λ n. tt) (λ q. puts (rw length-le (omega (arith, widest (node_at sch i).code))))
    short (wide k x) i r = fits sch lim k i r (λ n. tt) (λ q. puts (omega arith))
    short (blob k x) i r = fits sch lim k i r (λ n. tt) (λ q.
        either (WroteSays _ _) _ (λ n. puts (simp (length-append, length-le) (omega arith))) (λ n. refuses tt))
    short (variant t v) i r = fits sch lim 15 i r (λ n. tt) (λ q. tags sch lim t i (r + 1) (λ n. tt) (λ n.
        then (short v ((node_at sch i).first + t) (r + 1)) (λ x y.
        puts (simp (length-append, length-le) (omega (arith, widest (node_at sch i).code, y))))))
    short (repeated is) i r = fits sch lim 16 i r (λ n. tt) (λ q. relax (short_i is i (r + 1)) (λ b h. omega (arith, h)))
    short (tuple vs) i r = fits sch lim 17 i r (λ n. tt) (λ q.
        either (WroteSays _ _) _ (λ n. relax (short_v vs (node_at sch i).first (r + 1)) (λ b h. omega (arith, h))) (λ n. refuses tt))

    short_i : (is : Items) (i r : ℕ) → WroteSays (λ b. length b ≤ 80 * tally_i is 1 0 0 + tally_i is 0 1 1 + 32) Any (write_i sch lim is i r)
    short_i done i r = puts {b = le (width_of (form (node_at sch i).code)) (end_tag (width_of (form (node_at sch i).code)))} (rw length-le (omega (arith, widest (node_at sch i).code)))
    short_i (item t v is) i r = tags sch lim t i r (λ n. tt) (λ n.
        then (short v ((node_at sch i).first + t) r) (λ x y.
        then (short_i is i (r + records_of v)) (λ u z.
        puts (rw (joined (width_of (form (node_at sch i).code)) t x u) (omega (arith, widest (node_at sch i).code, y, z))))))

    short_v : (vs : Values) (j r : ℕ) → WroteSays (λ b. length b ≤ 80 * tally_v vs 1 0 0 + tally_v vs 0 1 1) Any (write_v sch lim vs j r)
    short_v none j r = puts {b = []} (omega arith)
    short_v (more v vs) j r =
        then (short v j r) (λ x y.
        then (short_v vs (j + 1) (r + records_of v)) (λ u z.
        puts (rw (length-append x u) (omega (arith, y, z)))))

  pub few_bytes : (v : Value) (i r : ℕ) (b : List ℕ) → write sch lim v i r ≡ Put b → length b + 32 ≤ 80 * records_of v + payload_of v
  few_bytes v i r b e = put (rw e at (short v i r))
