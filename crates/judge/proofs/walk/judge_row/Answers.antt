use Rattle.std.proofs.lemmas.Result.{err_from_is_err_and}
use native.Mathlib.Omega.{arith}
use mathlib.Core.Path.{sym, ◌∙◌}
use Rattle.judge.proofs.Going.{whole_inside}
use Rattle.judge.proofs.Leaves.{other_kind, opened}
use Rattle.judge.proofs.Root.{root_judgeable, row_judged}
use Rattle.judge.proofs.walk.judge_row.Goals as goal

pub value_record_at-own-requires : goal.value_record_at-own-requires
value_record_at-own-requires c = whole_inside _ _ _ _ _ _ (root_judgeable _ _ _ c.requires)

pub returns-then-kind-kind_of : goal.returns-then-kind-kind_of
returns-then-kind-kind_of c = other_kind _ _ _ _ _ _ (root_judgeable _ _ _ c.requires) _ c.value_record_at-own.ensures _ c.node_code-code.ensures _ c.kind_of.ensures _ c.if-kind-kind_of.true ∙ row_judged _ _ _ c.requires _

pub judge_children-requires : goal.judge_children-requires
judge_children-requires c = ((root_judgeable _ _ _ c.requires), opened _ _ _ _ _ _ (root_judgeable _ _ _ c.requires) _ c.value_record_at-own.ensures _ c.node_code-code.ensures _ c.kind_of.ensures c.if-kind-kind_of.false (omega (arith, c.node_code-code.ensures, c.requires.tuple)))

pub returns-in_err-q : goal.returns-in_err-q
returns-in_err-q c =
    let p = err_from_is_err_and c.from_residual.result c.from_residual.ensures.1 in
    rw (p.1, p.2, ← c.in_err-q.was) (c.judge_children.ensures ∙ row_judged _ _ _ c.requires _)

pub returns : goal.returns
returns c = sym c.in_ok-q.was ∙ c.judge_children.ensures ∙ row_judged _ _ _ c.requires _
