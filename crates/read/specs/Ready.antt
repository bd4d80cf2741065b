-- What the walk asks of a block, of the settings, and of where it stands.
-- Assumes nothing: these are definitions.
use Rattle.std.specs.Prelude.{ℕ, ◌+◌, ◌^◌, ◌≤◌, ◌<◌, ◌≡◌, true, List, length}
use Rattle.rules.specs.Block.{NodeIn, node_at, Closed}
use Rattle.rules.specs.Reading.{settings_ok}
use Rattle.rules.specs.declared.settings.Settings.{Settings}
use Rattle.leaves.specs.Leaf.{Readable}
use Rattle.leaves.specs.declared.leaf.SkipPos.{SkipPos}

-- ---- blocks

-- the block has a record i
abbrev pub HasNode : List ℕ → ℕ → Type 0
HasNode s i = NodeIn i (length s)

-- each record has a wire code, and its children lie in the block
pub record SoundNodes (s : List ℕ) : Type 0 where
  pub codes : (i : ℕ) → HasNode s i → (node_at s i).code ≤ 19
  pub closed : Closed s

-- record i of a sound block, and its wire code
pub record Coded (s : List ℕ) (i code : ℕ) : Type 0 where
  pub sound : SoundNodes s
  pub inside : HasNode s i
  pub is : code ≡ (node_at s i).code

-- ---- positions

-- that a leaf may be read from, and records were paid for, so that their count does not wrap
pub record Ready (inp : List ℕ) (charge : ℕ) (p : SkipPos) : Type 0 where
  pub stands : Readable inp p
  pub costs : 0 < charge
  pub total : p.records + p.budget.remaining < 2 ^ 32

-- ---- a row's value, at a position of the input

pub record Rooted (s inp : List ℕ) (settings : Settings) (at : ℕ) : Type 0 where
  pub sound : SoundNodes s
  pub root : HasNode s 0
  pub compound : 14 < (node_at s 0).code
  pub accepted : settings_ok settings ≡ true
  pub short : length inp < 2 ^ 32
  pub within : at ≤ length inp
