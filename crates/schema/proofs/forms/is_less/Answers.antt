use Rattle.std.proofs.Common.{Ordering, Less, Equal, Greater}
use Rattle.std.specs.Ordering.{is_lt}
use mathlib.Core.Path.{◌≡◌, refl, ◌∙◌}
use Rattle.rules.specs.Bytes.{is_less}
use Rattle.schema.proofs.forms.is_less.Goals as goal

same : (o : Ordering) → is_lt o ≡ is_less o
unfolding is_less
same Less = refl
same Equal = refl
same Greater = refl

pub returns : goal.returns
returns c = c.is_lt.ensures ∙ same _
