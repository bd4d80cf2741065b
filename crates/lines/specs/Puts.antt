-- A text in a buffer.
-- Assumes nothing: these are definitions.
use Rattle.std.specs.Prelude.{ℕ, ◌+◌, ◌≡◌, List, ◌++◌, length}
use Rattle.rules.specs.Bytes.{over}
use Rattle.rules.specs.Names.{ascii}
use Rattle.rules.specs.Lines.{decimal, word, carried}
use Rattle.rules.specs.declared.refusal.RefusalLine.{RefusalLine}

-- a buffer that held s₀ holds s, which is s₀ with a text over it from position `at` on, and the text ends at `end`
pub record TextPut (s₀ : List ℕ) (at : ℕ) (text : List ℕ) (s : List ℕ) (end : ℕ) : Type 0 where
  pub holds : s ≡ over s₀ at text
  pub ends : end ≡ at + length text

-- a refused line's beginning, from a line of the table
unfoldable pub head : RefusalLine → List ℕ
head l = (ascii "refused " ++ decimal l.number) ++ (ascii " " ++ (word l.name ++ carried l.labels l.a l.b l.c))
