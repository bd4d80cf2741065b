use Rattle.answers.proofs.Told.{value_bits, value_told, query_refused}
use Rattle.answers.proofs.answer_of_queried.Goals as goal

pub scalar_in_numbers-said-requires : goal.scalar_in_numbers-said-requires
scalar_in_numbers-said-requires c = value_bits _ _ c.requires c.in-Ok.is

pub returns-in-Ok : goal.returns-in-Ok
returns-in-Ok c = value_told _ _ _ _ c.in-Ok.is c.scalar_in_numbers-said.ensures c.no_refusal.ensures

pub returns-in-Err : goal.returns-in-Err
returns-in-Err c = query_refused _ _ _ c.in-Err.is c.answer_of_read.ensures
