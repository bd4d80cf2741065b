use Rattle.std.proofs.lemmas.Slice.Eq.{slice_eq-Decides}
use Rattle.std.proofs.lemmas.Bool.Decides.{Decides-eqb}
use Rattle.wire.proofs.NameTable.{same_name}
use Rattle.wire.proofs.names.is_name.Goals as goal

pub returns : goal.returns
returns c = rw (← c.name_of-known.ensures) (same_name _ _ _ (slice_eq-Decides Decides-eqb _ _ _ c.eq.ensures))
