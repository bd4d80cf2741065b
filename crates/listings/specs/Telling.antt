-- What is handed on.
-- Assumes nothing: these are definitions.
use Rattle.std.specs.Prelude.{ℕ, ◌<◌, ◌≡◌, List, [], length, get_or}
use Rattle.rules.specs.Listing.{pieces}

-- a text is piece n of the listing of three files
pub record IsPiece (schema names stream : List ℕ) (n : ℕ) (text : List ℕ) : Type 0 where
  pub there : n < length (pieces schema names stream)
  pub is : text ≡ get_or (pieces schema names stream) n []
