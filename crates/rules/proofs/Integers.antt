-- Examples of integers as text, computed on the rules.
-- Assumes nothing.
use mathlib.Core.Path.{◌≡◌, refl}
use mathlib.Core.List.{map}
use Rattle.rules.specs.Choice.{pick}
use Rattle.rules.specs.Bytes.{le_at}
use Rattle.rules.specs.Names.{ascii}
use Rattle.rules.specs.Query.{signed}
use Rattle.rules.specs.Numerals.{digit, digits_if, digits, numeral, integer_in, signed_bytes, integer_text, repeated_byte, example_integers, example_texts}

pub integers_hold : map integer_text example_integers ≡ example_texts
unfolding pick le_at ascii signed digit digits_if digits numeral integer_in signed_bytes integer_text repeated_byte example_integers example_texts
integers_hold = refl
