-- Choosing by a test, and tests joined.
-- Assumes nothing: these are definitions.
use Rattle.std.specs.Prelude.{ℕ, zero, suc, Bool, true, false}

-- the first where the test holds, else the second
unfoldable pub pick : {A : Type 0} → Bool → A → A → A
pick true a b = a
pick false a b = b

infixl 30 ◌and◌
unfoldable pub ◌and◌ : Bool → Bool → Bool
true and b = b
false and b = false

-- the test holds of each number below n
unfoldable pub all : (ℕ → Bool) → ℕ → Bool
all test zero = true
all test (suc n) = all test n and test n
