-- A step of the reading: from the run over a stream to the run over the stream and more bytes.
-- Assumes nothing.
use Prim.Native.Nat.{ℕ, zero, suc, ◌+◌, ◌-◌, ◌≤◌}
use mathlib.Core.Path.{◌≡◌, refl, sym, ap, ◌∙◌}
use mathlib.Core.Bool.{Bool, true, false}
use mathlib.Core.List.{List, [], ◌∷◌, ◌++◌}
use native.Mathlib.Omega.{arith}
use native.Mathlib.Numerals.{add-one}
use lib.ListN.{length, take, drop}
use lib.Seq.{drop-cons, drop-append-le, drop-drop, take-append_seam, drop-append_seam, length-take-le, take_all}
use Rattle.rules.specs.Choice.{pick}
use Rattle.rules.specs.Bytes.{part, over}
use Rattle.rules.specs.Format.{Format}
use Rattle.rules.specs.Reading.{run_rule, ran_of}
use Rattle.rules.specs.Windows.{goes_on, added}
use Rattle.rules.specs.declared.answer.Ran.{Ran}
use Rattle.rules.specs.declared.settings.Settings.{Settings}
use Rattle.rules.proofs.Over.{over-is}
use Rattle.rules.proofs.Stands.{length_part}
use Rattle.row_laws.proofs.Windows.{bytes_front, refused_in_windows, ran_in_windows, ran_inside}
use Rattle.windows.specs.Steps.{cut, GoesOver}

module _ (f : Format) (s : Settings) (ran : Ran) (window : List ℕ) where
  -- a run that was refused by another number than 12 stands
  pub goes_nowhere : goes_on ran.stop ≡ false → (left : List ℕ) → GoesOver f s ran window ran left
  unfolding GoesOver ran_of
  goes_nowhere g left stream more before r e bs short = record {
    is = r.is ∙ ap ran_of (sym (refused_in_windows f s stream more bs short (rw r.is at g)));
    rest = λ t. let z : ◌≡◌ {A = ℕ} 0 1 = cc in absurd (omega arith);
  }

  -- any other goes on by the run over the window, and leaves what that run leaves
  pub goes_over : goes_on ran.stop ≡ true → (next : Ran) (left : List ℕ) → next ≡ added ran (ran_of (run_rule f s window)) → (goes_on next.stop ≡ true → left ≡ drop (next.bytes - ran.bytes) window) → GoesOver f s ran window next left
  unfolding GoesOver
  goes_over g next left n l stream more before r e bs short =
      let i = ran_inside f s stream (bytes_front stream more bs) in
      let b : ran.bytes ≤ length stream = rw r.is i.within in
      let w : window ≡ drop ran.bytes (stream ++ more) = e ∙ rw (r.rest g) (sym (drop-append-le ran.bytes stream more b)) in
      let c : next.bytes ≡ ran.bytes + (ran_of (run_rule f s window)).bytes = unfold added in ap (λ (x : Ran). x.bytes) n in
      let d : ran.bytes + (next.bytes - ran.bytes) ≡ next.bytes = omega arith in
      record {
        is = n ∙ rw (w, r.is) (sym (ran_in_windows f s stream more bs short (rw r.is at g)));
        rest = λ t. l t ∙ rw (w, drop-drop (next.bytes - ran.bytes) ran.bytes (stream ++ more), d);
      }

-- ---- what is left, brought to the window's front

part-take : (s : List ℕ) (at n : ℕ) → at + n ≤ length s → part s at n ≡ take n (drop at s)
unfolding part
part-take s at zero h = refl
part-take s at (suc n) h = rw (drop-cons s at 0 (omega arith), part-take s (at + 1) n (omega arith), add-one)

pub drop-take : (k m : ℕ) (s : List ℕ) → drop k (take m s) ≡ take (m - k) (drop k s)
drop-take zero m s = let e : m - 0 ≡ m = omega arith in rw e
drop-take (suc k) zero s = let e : 0 - suc k ≡ 0 = omega arith in rw e
drop-take (suc k) (suc m) [] = sym (take_all (suc m - suc k) [] (omega arith))
drop-take (suc k) (suc m) (x ∷ s) = let e : suc m - suc k ≡ m - k = omega arith in rw e (drop-take k m s)

-- what is written somewhere stands there
written : (w n : ℕ) (s xs : List ℕ) → length xs ≡ n → w + n ≤ length s → take n (drop w (over s w xs)) ≡ xs
written w n s xs e h =
    let z : length (take w s) ≡ w = length-take-le w s (omega arith) in
    let f : drop w (take w s ++ (xs ++ drop (w + length xs) s)) ≡ xs ++ drop (w + length xs) s = rw z at (drop-append_seam (take w s) (xs ++ drop (w + length xs) s)) in
    rw (over-is xs s w (omega arith), f, ← e) (take-append_seam xs (drop (w + length xs) s))

-- the n bytes that were brought to the window's front are what is left of it after k bytes, where that is what n counts
pub left_in_front : (s s' : List ℕ) (w k n end : ℕ) (b : Bool) → s' ≡ over s w (part s (w + k) n) → n ≡ pick b (end - (w + k)) 0 → (w + k) + n ≤ length s → b ≡ true → cut s' w (w + n) ≡ drop k (cut s w end)
unfolding pick
left_in_front s s' w k n end b o e l t =
    let m : n ≡ end - (w + k) = rw t at e in
    let a : (w + n) - w ≡ n = omega arith in
    let c : (end - w) - k ≡ n = omega arith in
    rw (o, a, written w n s (part s (w + k) n) (length_part s (w + k) n) (omega arith), drop-take k (end - w) (drop w s), drop-drop k w s, c) (part-take s (w + k) n l)
