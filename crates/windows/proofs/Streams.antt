-- The reading of a stream: where it begins, what a read and a step over the window make of it, and where it ends.
-- Assumes nothing.
use Rattle.rules.specs.declared.refusal.Refusal.{Refusal}
use Rattle.std.specs.Prelude.{⊤}
use Rattle.std.proofs.Common.{Result, Ok, Err}
use Prim.Native.Nat.{ℕ, zero, suc, ◌+◌, ◌-◌, ◌≤◌, ◌<◌}
use mathlib.Core.Path.{◌≡◌, refl, sym, ◌∙◌}
use mathlib.Core.Bool.{false}
use mathlib.Core.List.{List, [], ◌∷◌, ◌++◌}
use native.Mathlib.Omega.{arith}
use borrow.Author.Tests.{lt-leb}
use lib.Dec.{leb}
use lib.ListN.{length, take, drop, length-append, length-drop, drop_of_length-le}
use lib.Seq.{length-take-le, take-append-le, take-take, take-add, drop-drop, get_or-drop}
use Rattle.rules.specs.Choice.{pick, ◌and◌}
use Rattle.rules.specs.Bytes.{Bytes, part, over}
use Rattle.rules.specs.Format.{Format, sizes_ok}
use Rattle.rules.specs.Reading.{settings_ok, door, through, refused_run, run_rule, row_count, byte_count, ran_of}
use Rattle.rules.specs.Windows.{moved_stop, added}
use Rattle.rules.specs.Refusals.{Setting}
use Rattle.rules.specs.declared.answer.Ran.{Ran}
use Rattle.rules.specs.declared.settings.Settings.{Settings}
use Rattle.rules.proofs.Tests.{and_false}
use Rattle.rules.proofs.Stands.{length_part}
use Rattle.rules.proofs.Over.{over-is}
use Rattle.row_laws.proofs.Parts.{moved_none}
use Rattle.windows.specs.Bounds.{Laid}
use Rattle.windows.specs.Steps.{cut, format_in, GoesOver, Stream}
use Rattle.windows.specs.declared.space.Ends.{Ends}
use Rattle.windows.proofs.Steps.{drop-take}

-- ---- parts of the space

-- what is put behind the first w elements leaves them
pub front : (s rest : List ℕ) (w : ℕ) → w ≤ length s → take w (take w s ++ rest) ≡ take w s
front s rest w h = rw (take-append-le w (take w s) rest (omega (arith, length-take-le w s h)), take-take w w s (omega arith))

-- lists that begin alike have the same parts there
same_cut : (s s' : List ℕ) (w a b : ℕ) → take w s ≡ take w s' → b ≤ w → cut s a b ≡ cut s' a b
same_cut s s' w a b e h = front_cut s ∙ rw e (sym (front_cut s'))
  where
    front_cut : (s : List ℕ) → cut s a b ≡ cut (take w s) a b
    front_cut s = rw (drop-take a w s) (sym (take-take (b - a) (w - a) (drop a s) (omega arith)))

module _ {ends : Ends} {end n : ℕ} (l : Laid ends end n) where
  abbrev w : ℕ
  w = ends.registry

  -- and the same tables
  same_tables : (s s' : List ℕ) → take w s ≡ take w s' → format_in s ends ≡ format_in s' ends
  same_tables s s' e = rw (same_cut s s' w 0 ends.records e (omega arith), same_cut s s' w ends.records ends.names e (omega arith), same_cut s s' w ends.names ends.references e (omega arith), same_cut s s' w ends.references w e (omega arith))

  -- what is brought to the window leaves the tables
  pub tables_stay : (s s' : List ℕ) (from k : ℕ) → s' ≡ over s w (part s from k) → w + k ≤ length s → format_in s' ends ≡ format_in s ends
  tables_stay s s' from k e h =
      let i : w + length (part s from k) ≤ length s = rw (length_part s from k) h in
      same_tables s' s (rw (e, over-is (part s from k) s w i) (front s (part s from k ++ drop (w + length (part s from k)) s) w (omega arith)))

-- a part in two
two_cuts : (s : List ℕ) (a b e : ℕ) → a ≤ b → b ≤ e → cut s a e ≡ cut s a b ++ cut s b e
two_cuts s a b e h k =
    let p : e - a ≡ (b - a) + (e - b) = omega arith in
    let q : a + (b - a) ≡ b = omega arith in
    rw (p, take-add (b - a) (e - b) (drop a s), drop-drop (b - a) a s, q)

-- ---- bytes

bytes_both : (a b : List ℕ) → Bytes a → Bytes b → Bytes (a ++ b)
bytes_both [] b h k i = k i
bytes_both (x ∷ a) b h k zero = h 0
bytes_both (x ∷ a) b h k (suc i) = bytes_both a b (λ j. h (suc j)) k i

bytes_take : (n : ℕ) (s : List ℕ) → Bytes s → Bytes (take n s)
bytes_take zero s h i = omega arith
bytes_take (suc n) [] h i = omega arith
bytes_take (suc n) (x ∷ s) h zero = h 0
bytes_take (suc n) (x ∷ s) h (suc i) = bytes_take n s (λ j. h (suc j)) i

bytes_cut : (s : List ℕ) (a b : ℕ) → Bytes s → Bytes (cut s a b)
bytes_cut s a b h = bytes_take (b - a) (drop a s) (λ i. rw (get_or-drop a s i 0) (h (a + i)))

-- ---- the stream

-- nothing counted before
added_none : (none ran : Ran) → none.rows ≡ 0 → none.bytes ≡ 0 → added none ran ≡ ran
unfolding added
added_none none ran a b =
    let c : none.rows + ran.rows ≡ ran.rows = omega arith in
    let d : none.bytes + ran.bytes ≡ ran.bytes = omega arith in
    rw (c, d, b, unmoved ran.stop)
  where
    unmoved : (stop : Result ⊤ Refusal) → moved_stop 0 stop ≡ stop
    unmoved (Ok tt) = unfold moved_stop in refl
    unmoved (Err r) = unfold moved_stop in rw (moved_none r)

-- before the first read
pub stream_first : (set : Settings) (s : List ℕ) (ends : Ends) (none ran : Ran) → none.rows ≡ 0 → none.bytes ≡ 0 → ran ≡ added none (ran_of (run_rule (format_in s ends) set (cut s ends.registry ends.registry))) → Stream (format_in s ends) set ends s ends.registry ran 0
stream_first set s ends none ran a b e =
    let n : ends.registry - ends.registry ≡ 0 = omega arith in
    record {
      read = [];
      bytes = λ i. omega arith;
      size = refl;
      runs = record { is = rw n at (e ∙ added_none none _ a b); rest = λ g. rw (n, drop_of_length-le {A = ℕ} [] {i = ran.bytes} (omega arith)) };
      behind = refl;
    }

-- the space with other bytes behind the window
abbrev pub filled : List ℕ → ℕ → List ℕ → List ℕ
filled s end ys = take end s ++ (ys ++ drop (length s - end) (drop end s))

-- a read puts `got` bytes there
module _ (f : Format) (set : Settings) {ends : Ends} {end n : ℕ} (s ys : List ℕ) (ran : Ran) (got : ℕ) (l : Laid ends end (length s)) (bs : Bytes (filled s end ys)) (in-space : end + got ≤ length (filled s end ys)) (t : Stream f set ends s end ran n) where
  abbrev w₁ : ℕ
  w₁ = ends.registry

  abbrev s₁ : List ℕ
  s₁ = filled s end ys

  abbrev pub more : List ℕ
  more = cut s₁ end (end + got)

  begins : take end s₁ ≡ take end s
  begins = front s (ys ++ drop (length s - end) (drop end s)) end l.within

  window : cut s₁ w₁ (end + got) ≡ cut s w₁ end ++ more
  window = two_cuts s₁ w₁ end (end + got) l.window (omega arith) ∙ rw (same_cut s₁ s end w₁ end begins (omega arith))

  tables_are : format_in s₁ ends ≡ f
  tables_are =
      let h : take w₁ s₁ ≡ take w₁ s = sym (take-take w₁ end s₁ l.window) ∙ rw begins (take-take w₁ end s l.window) in
      same_tables l s₁ s h ∙ t.behind

  -- what was read stays where it stands
  pub stream_kept : Stream f set ends s₁ end ran n
  stream_kept = record { read = t.read; bytes = t.bytes; size = t.size; runs = rw (same_cut s₁ s end w₁ end begins (omega arith)) t.runs; behind = tables_are }

  pub more_bytes : Bytes (t.read ++ more)
  more_bytes = bytes_both t.read more t.bytes (bytes_cut s₁ end (end + got) bs)

  pub longer : length (t.read ++ more) ≡ n + got
  longer =
      let a : (end + got) - end ≡ got = omega arith in
      rw (length-append t.read more, a, length-take-le got (drop end s₁) (omega (arith, length-drop end s₁)), t.size)

  -- and a step goes on over them
  pub stream_on : n + got ≤ 4294967295 → (s₂ : List ℕ) (end₂ : ℕ) (next : Ran) → GoesOver (format_in s₁ ends) set ran (cut s₁ w₁ (end + got)) next (cut s₂ w₁ end₂) → format_in s₂ ends ≡ format_in s₁ ends → Stream f set ends s₂ end₂ next (n + got)
  unfolding GoesOver
  stream_on short s₂ end₂ next k same = record {
    read = t.read ++ more;
    bytes = more_bytes;
    size = longer;
    runs = (rw tables_are at k) t.read more (cut s w₁ end) t.runs window more_bytes (rw longer short);
    behind = same ∙ tables_are;
  }

  -- or they are too many
  pub stream_long : 4294967295 < n + got → ran_of (run_rule f set (t.read ++ more)) ≡ record { rows = 0; bytes = 0; stop = Err Setting }
  unfolding ran_of run_rule door through refused_run row_count byte_count pick
  stream_long h =
      let none : (false and leb 0 (length (t.read ++ more))) ≡ false = unfold ◌and◌ in refl in
      rw (lt-leb (length (t.read ++ more)) 4294967295 (rw longer h), and_false (settings_ok set and sizes_ok f), none)
