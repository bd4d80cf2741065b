use Rattle.std.proofs.lemmas.Result.{err_from_is_err_and}
use borrow.Author.Tests.{le-leb, lt-leb}
use Rattle.rules.specs.Choice.{pick}
use Rattle.leaves.specs.Leaf.{◌>>=◌, reading, skim_charge, having, bytes_past, stored, skim_bytes, skim_blob}
use Rattle.leaves.proofs.Steps.{number_past}
use Rattle.leaves.proofs.leaf.skip_blob.Goals as goal

pub returns-in_default : goal.returns-in_default
unfolding skim_blob reading
returns-in_default c = rw (← c.read_length-length.ensures, c.unwrap_err.ensures)

pub overflow_sub-left : goal.overflow_sub-left
overflow_sub-left c = (number_past _ _ _ _ _ _ _ c.requires.within c.read_length-length.ensures c.in-Ok.is).1

pub returns-then-limit-n : goal.returns-then-limit-n
unfolding skim_blob reading pick
returns-then-limit-n c = rw (← c.read_length-length.ensures, c.in-Ok.is, ← c.blob_limit-limit.ensures, lt-leb _ _ c.if-limit-n.true)

pub returns-in_err-rest : goal.returns-in_err-rest
unfolding skim_blob reading skim_charge having skim_bytes bytes_past stored pick ◌>>=◌
returns-in_err-rest c =
    let p = err_from_is_err_and c.from_residual.result c.from_residual.ensures.1 in
    rw (p.1, p.2, ← c.read_length-length.ensures, c.in-Ok.is, ← c.blob_limit-limit.ensures, le-leb _ _ c.if-limit-n.false, ← c.charge.ensures, c.in_err-rest.was)

pub returns-then-left-n : goal.returns-then-left-n
unfolding skim_blob reading skim_charge having skim_bytes bytes_past stored pick ◌>>=◌
returns-then-left-n c = rw (← c.read_length-length.ensures, c.in-Ok.is, ← c.blob_limit-limit.ensures, le-leb _ _ c.if-limit-n.false, ← c.charge.ensures, c.in_ok-rest.was, lt-leb _ _ c.if-left-n.true)

pub returns : goal.returns
unfolding skim_blob reading skim_charge having skim_bytes bytes_past stored pick ◌>>=◌
returns c = rw (← c.read_length-length.ensures, c.in-Ok.is, ← c.blob_limit-limit.ensures, le-leb _ _ c.if-limit-n.false, ← c.charge.ensures, c.in_ok-rest.was, le-leb _ _ c.if-left-n.false)
