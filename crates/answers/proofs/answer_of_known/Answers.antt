use Rattle.answers.proofs.Told.{known_wire, known_none}
use Rattle.answers.proofs.answer_of_known.Goals as goal

pub returns-in-Some : goal.returns-in-Some
returns-in-Some c = known_wire _ _ _ _ c.in-Some.is c.no_refusal.ensures c.code_of.ensures

pub returns-in-None : goal.returns-in-None
returns-in-None c = known_none _ _ _ c.in-None.is c.no_refusal-in-None.ensures c.extent_of_bytes.ensures
