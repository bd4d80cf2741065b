-- What is written under some limits is written without them.
-- Assumes nothing.
use Prim.Native.Nat.{ℕ, ◌+◌}
use mathlib.Core.Path.{◌≡◌, refl}
use mathlib.Core.Bool.{true}
use mathlib.Core.List.{List, [], ◌∷◌, ◌++◌}
use native.Mathlib.Omega.{arith}
use borrow.Author.Tests.{lt-ltb, le-leb, eq-eqb}
use lib.Dec.{leb, eqb}
use lib.ListN.{length}
use Rattle.rules.specs.Choice.{pick}
use Rattle.rules.specs.Bytes.{le}
use Rattle.rules.specs.Wire.{form, width_of, end_tag}
use Rattle.rules.specs.Block.{node_at}
use Rattle.rules.specs.ValueTable.{bit}
use Rattle.rules.specs.Value.{Value, nothing, boolean, number, wide, blob, variant, repeated, tuple, Items, done, item, Values, none, more, values, records_of, Fits, FitsI, FitsV}
use Rattle.rules.specs.Walk.{Limits, blob_limit}
use Rattle.rules.specs.Writing.{Put, ◌>>=◌, fitting, tagged, write, write_i, write_v, write_row}
use Rattle.rules.specs.Reading.{largest_limit}
use Rattle.rules.proofs.Tests.{either}
use Rattle.rules.proofs.Limits.{one_limit}
use Rattle.value_laws.proofs.Says.{Any, WroteSays, puts, refuses, then, put, fits, tags}
use Rattle.write.specs.Putting.{unlimited}
use Rattle.judge.proofs.Short.{relax}

-- a test that holds
yes : {A : Type 0} (x y : A) → pick true x y ≡ x
unfolding pick
yes x y = refl

pub no_limit : (code : ℕ) → blob_limit unlimited code ≡ largest_limit
no_limit code = one_limit unlimited largest_limit refl refl code

module _ (sch : List ℕ) (lim : Limits) where
  mutual
    unfolding write fitting tagged ◌>>=◌ Fits Any

    free : (v : Value) (i r : ℕ) → Fits v → WroteSays (λ b. write sch unlimited v i r ≡ Put b) Any (write sch lim v i r)
    free nothing i r f = fits sch lim 0 i r (λ n. tt) (λ q. puts {b = []} (rw (eq-eqb _ _ q, yes)))
    free (boolean x) i r f = fits sch lim 1 i r (λ n. tt) (λ q. puts {b = bit x ∷ []} (rw (eq-eqb _ _ q, yes)))
    free (number k x) i r f = fits sch lim k i r (λ n. tt) (λ q. puts {b = le (width_of (form (node_at sch i).code)) x} (rw (eq-eqb _ _ q, yes)))
    free (wide k x) i r f = fits sch lim k i r (λ n. tt) (λ q. puts {b = x} (rw (eq-eqb _ _ q, yes)))
    free (blob k x) i r f = fits sch lim k i r (λ n. tt) (λ q.
        either (WroteSays (λ b. write sch unlimited (blob k x) i r ≡ Put b) Any) (leb (length x) (blob_limit lim k)) (λ n. puts {b = le 4 (length x) ++ x} (rw (eq-eqb _ _ q, yes, no_limit k, le-leb (length x) 4294967295 (omega (arith, f.1)), yes))) (λ n. refuses tt))
    free (variant t v) i r f = fits sch lim 15 i r (λ n. tt) (λ q. tags sch lim t i (r + 1) (λ n. tt) (λ n.
        then (free v ((node_at sch i).first + t) (r + 1) f.1) (λ x y.
        puts {b = le (width_of (form (node_at sch i).code)) t ++ x} (rw (eq-eqb _ _ q, yes, lt-ltb _ _ n, yes, y)))))
    free (repeated is) i r f = fits sch lim 16 i r (λ n. tt) (λ q. relax (free_i is i (r + 1) f) (λ b y. rw (eq-eqb _ _ q, yes, y)))
    free (tuple vs) i r f = fits sch lim 17 i r (λ n. tt) (λ q.
        either (WroteSays (λ b. write sch unlimited (tuple vs) i r ≡ Put b) Any) (eqb (values vs) (node_at sch i).children) (λ n. relax (free_v vs (node_at sch i).first (r + 1) f) (λ b y. rw (eq-eqb _ _ q, yes, n, yes, y))) (λ n. refuses tt))

    free_i : (is : Items) (i r : ℕ) → FitsI is → WroteSays (λ b. write_i sch unlimited is i r ≡ Put b) Any (write_i sch lim is i r)
    free_i done i r f = puts {b = le (width_of (form (node_at sch i).code)) (end_tag (width_of (form (node_at sch i).code)))} refl
    free_i (item t v is) i r f = tags sch lim t i r (λ n. tt) (λ n.
        then (free v ((node_at sch i).first + t) r f.1.0) (λ x y.
        then (free_i is i (r + records_of v) f.1.1) (λ u z.
        puts {b = le (width_of (form (node_at sch i).code)) t ++ (x ++ u)} (rw (lt-ltb _ _ n, yes, y, z)))))

    free_v : (vs : Values) (j r : ℕ) → FitsV vs → WroteSays (λ b. write_v sch unlimited vs j r ≡ Put b) Any (write_v sch lim vs j r)
    free_v none j r f = puts {b = []} refl
    free_v (more v vs) j r f =
        then (free v j r f.0) (λ x y.
        then (free_v vs (j + 1) (r + records_of v) f.1) (λ u z.
        puts {b = x ++ u} (rw (y, z))))

  -- A row that is written under some limits is the same without them.
  pub row_free : (v : Value) (b : List ℕ) → Fits v → write_row sch lim v ≡ Put b → write_row sch unlimited v ≡ Put b
  unfolding write_row ◌>>=◌
  row_free v b f e = put (rw e at good)
    where
      good : WroteSays (λ c. write_row sch unlimited v ≡ Put c) Any (write_row sch lim v)
      good = then (free v 0 0 f) (λ x y. puts {b = le 2 0 ++ x} (rw y))
