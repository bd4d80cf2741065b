use Rattle.std.proofs.Common.{Ordering, Less, Equal, Greater}
use Rattle.std.specs.Ordering.{is_eq}
use mathlib.Core.Path.{◌≡◌, refl, ◌∙◌}
use Rattle.rules.specs.Bytes.{is_equal}
use Rattle.wire.proofs.order.is_equal.Goals as goal

same : (o : Ordering) → is_eq o ≡ is_equal o
unfolding is_equal
same Less = refl
same Equal = refl
same Greater = refl

pub returns : goal.returns
returns c = c.is_eq.ensures ∙ same _
