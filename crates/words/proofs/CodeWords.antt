-- The words for wire codes and contexts.
-- Assumes nothing.
use Prim.Native.Nat.{ℕ, zero, suc, ◌-◌, ◌≤◌, ◌<◌}
use mathlib.Core.Path.{◌≡◌, refl}
use mathlib.Core.List.{List, [], ◌∷◌}
use native.Mathlib.Omega.{arith}
use borrow.Author.Tests.{lt-ltb, le-ltb}
use lib.ListN.{length, get_or, get_or-eq_default}
use Rattle.rules.specs.Choice.{pick}
use Rattle.rules.specs.Wire.{wire_types}
use Rattle.rules.specs.declared.wire_type.WireType.{WireType}
use Rattle.rules.specs.Lines.{code_words, code_word, context_words, context_word}
use Rattle.rules.specs.Listing.{parent_words, kind_word}

past_codes : (ts : List WireType) (code : ℕ) → length ts ≤ code → code_words ts code ≡ []
unfolding code_words
past_codes [] code h = refl
past_codes (t ∷ ts) zero h = absurd (omega arith)
past_codes (t ∷ ts) (suc code) h = past_codes ts code (omega arith)

pub no_code_word : (code : ℕ) → 20 ≤ code → code_word code ≡ []
unfolding code_word wire_types
no_code_word code h = past_codes _ code h

pub fixed_context_word : (c : ℕ) → c < 13 → context_word c ≡ code_word c
unfolding context_word pick
fixed_context_word c h = rw (lt-ltb c 13 h)

pub no_context_word : (c : ℕ) → 18 ≤ c → context_word c ≡ []
unfolding context_word context_words pick
no_context_word c h = rw (le-ltb c 13 (omega arith)) (get_or-eq_default {A = List ℕ} context_words [] {n = c - 13} (omega arith))

-- from 13 on, by the table of contexts
abbrev pub named_context : ℕ → List ℕ
named_context i = get_or context_words i []

pub table_context_word : (c : ℕ) → 13 ≤ c → context_word c ≡ named_context (c - 13)
unfolding context_word pick
table_context_word c h = rw (le-ltb c 13 h)

-- ---- kinds, from 15 on by the table of those with children

pub scalar_kind_word : (k : ℕ) → k < 15 → kind_word k ≡ code_word k
unfolding kind_word pick
scalar_kind_word k h = rw (lt-ltb k 15 h)

pub no_kind_word : (k : ℕ) → 18 ≤ k → kind_word k ≡ []
unfolding kind_word parent_words pick
no_kind_word k h = rw (le-ltb k 15 (omega arith)) (get_or-eq_default {A = List ℕ} parent_words [] {n = k - 15} (omega arith))

abbrev pub named_parent : ℕ → List ℕ
named_parent i = get_or parent_words i []

pub table_kind_word : (k : ℕ) → 15 ≤ k → kind_word k ≡ named_parent (k - 15)
unfolding kind_word pick
table_kind_word k h = rw (le-ltb k 15 h)
