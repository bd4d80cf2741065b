-- What a run over a stream is told as, where the reading ends.
-- Assumes nothing.
use Rattle.std.proofs.Common.{Result, Ok, Err}
use Prim.Native.Nat.{ℕ, zero, suc, ◌+◌, ◌-◌, ◌≤◌, ◌<◌}
use mathlib.Core.Path.{◌≡◌, sym, ◌∙◌}
use mathlib.Core.Bool.{true, false}
use mathlib.Core.List.{List, [], ◌∷◌, ◌++◌}
use native.Mathlib.Omega.{arith}
use borrow.Author.Tests.{eq-eqb, ne_eqb}
use lib.IntN.{ℤ}
use lib.ListN.{length, take, drop}
use lib.Seq.{get_or-drop}
use Rattle.rules.specs.Bytes.{Bytes}
use Rattle.rules.specs.Format.{Format}
use Rattle.rules.specs.Refusals.{Setting}
use Rattle.rules.specs.declared.answer.Ran.{Ran}
use Rattle.rules.specs.declared.settings.Settings.{Settings}
use Rattle.windows.specs.Bounds.{Laid}
use Rattle.windows.specs.Steps.{Stream}
use Rattle.windows.specs.declared.space.Ends.{Ends}
use Rattle.windows.proofs.Streams.{filled, more, more_bytes, longer, stream_kept, stream_long}
use Rattle.reads.specs.Outcomes.{outcome_of}
use Rattle.reads.specs.declared.RunFailure.{RunFailure}
use Rattle.deliveries.specs.Outcomes.{Answers, read, long}

-- bytes behind bytes
bytes_both : (a b : List ℕ) → Bytes a → Bytes b → Bytes (a ++ b)
bytes_both [] b h k i = k i
bytes_both (x ∷ a) b h k zero = h 0
bytes_both (x ∷ a) b h k (suc i) = bytes_both a b (λ j. h (suc j)) k i

-- the first bytes
bytes_take : (n : ℕ) (s : List ℕ) → Bytes s → Bytes (take n s)
bytes_take zero s h i = omega arith
bytes_take (suc n) [] h i = omega arith
bytes_take (suc n) (x ∷ s) h zero = h 0
bytes_take (suc n) (x ∷ s) h (suc i) = bytes_take n s (λ j. h (suc j)) i

-- and those behind them
bytes_drop : (n : ℕ) (s : List ℕ) → Bytes s → Bytes (drop n s)
bytes_drop n s h i = rw (get_or-drop n s i 0) (h (n + i))

-- a space that holds bytes holds bytes once others stand behind the window
pub bytes_filled : (s : List ℕ) (end : ℕ) (ys : List ℕ) → Bytes s → Bytes ys → Bytes (filled s end ys)
bytes_filled s end ys h k =
    bytes_both (take end s) (ys ++ drop (length s - end) (drop end s)) (bytes_take end s h) (bytes_both ys (drop (length s - end) (drop end s)) k (bytes_drop (length s - end) (drop end s) (bytes_drop end s h)))

module _ (f : Format) (set : Settings) {ends : Ends} {end n : ℕ} (s : List ℕ) (ran : Ran) (last : ℤ) (o : Result Ran RunFailure) (t : Stream f set ends s end ran n) where
  -- the window is full
  pub ends_full : end ≤ length s → length s ≤ end → o ≡ outcome_of last ran true → Answers f set ends s o
  ends_full h k e = rw (e, ← eq-eqb end (length s) (omega arith)) (read t last)

-- too many bytes came
pub ends_long : (f : Format) (set : Settings) {ends : Ends} {end n : ℕ} (s ys : List ℕ) (ran : Ran) (got : ℕ) (l : Laid ends end (length s)) (bs : Bytes (filled s end ys)) (i : end + got ≤ length (filled s end ys)) (t : Stream f set ends s end ran n) → 4294967295 < n + got → (space : List ℕ) (r : Ran) → r ≡ record { rows = 0; bytes = 0; stop = Err Setting } → Answers f set ends space (Ok r)
ends_long f set s ys ran got l bs i t h space r e =
    rw (e ∙ sym (stream_long f set s ys ran got l bs i t h)) (long (t.read ++ more f set s ys ran got l bs i t) (more_bytes f set s ys ran got l bs i t) (rw (longer f set s ys ran got l bs i t) h))

-- no more bytes came, and the window is not full
pub ends_short : (f : Format) (set : Settings) {ends : Ends} {end n : ℕ} (s ys : List ℕ) (ran : Ran) (got : ℕ) (l : Laid ends end (length s)) (bs : Bytes (filled s end ys)) (i : end + got ≤ length (filled s end ys)) (t : Stream f set ends s end ran n) → end < length (filled s end ys) → (last : ℤ) (o : Result Ran RunFailure) → o ≡ outcome_of last ran false → Answers f set ends (filled s end ys) o
ends_short f set {end = end} s ys ran got l bs i t h last o e =
    rw (e, ← ne_eqb end (length (filled s end ys)) (λ z. omega arith)) (read (stream_kept f set s ys ran got l bs i t) last)
