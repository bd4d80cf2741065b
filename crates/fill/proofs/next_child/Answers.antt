use native.Mathlib.Omega.{arith}
use Rattle.fill.proofs.Nexts.{variant_tag, repeated_tag, next_in_tuple, tuple_done, variant_done, next_of_variant, no_pair, next_pair}
use Rattle.fill.proofs.next_child.Goals as goal

pub returns-then-i-count : goal.returns-then-i-count
returns-then-i-count c = next_in_tuple _ _ _ _ _ _ c.if-code-eq19.true c.if-i-count.true

pub returns-then-code-eq19 : goal.returns-then-code-eq19
returns-then-code-eq19 c = tuple_done _ _ _ _ _ _ c.if-code-eq19.true c.if-i-count.false

pub returns-then-i-gt0 : goal.returns-then-i-gt0
returns-then-i-gt0 c = variant_done _ _ _ _ _ _ c.requires.0 c.if-code-lt17.true c.if-i-gt0.true

pub tag_at-tag-requires : goal.tag_at-tag-requires
tag_at-tag-requires c = variant_tag _ _ _ _ c.requires.0 c.requires.3 c.if-code-lt17.true c.if-i-gt0.false

pub overflow_add-result-then-code-lt17-2 : goal.overflow_add-result-then-code-lt17-2
overflow_add-result-then-code-lt17-2 c = omega (arith, variant_tag _ _ _ _ c.requires.0 c.requires.3 c.if-code-lt17.true c.if-i-gt0.false, c.tag_width.ensures, c.well_formed)

pub returns-then-code-lt17 : goal.returns-then-code-lt17
returns-then-code-lt17 c = next_of_variant _ _ _ _ _ _ _ _ c.tag_at-tag.ensures.0 c.tag_width.ensures c.requires.0 c.if-code-lt17.true c.if-i-gt0.false

pub tag_at-tag-requires-2 : goal.tag_at-tag-requires-2
tag_at-tag-requires-2 c = repeated_tag _ _ _ _ c.requires.0 c.requires.3 c.requires.1 c.if-code-eq19.false c.if-code-lt17.false

pub overflow_add-next : goal.overflow_add-next
overflow_add-next c = omega (arith, repeated_tag _ _ _ _ c.requires.0 c.requires.3 c.requires.1 c.if-code-eq19.false c.if-code-lt17.false, c.tag_width-2.ensures, c.well_formed)

pub returns-then-ends : goal.returns-then-ends
returns-then-ends c = no_pair _ _ _ _ _ _ _ _ c.tag_at-tag-2.ensures.0 c.tag_width-2.ensures _ c.if-code-lt17.false c.requires.1 c.if-code-eq19.false c.ends.ensures c.if-ends.true

pub returns : goal.returns
returns c = next_pair _ _ _ _ _ _ _ _ c.tag_at-tag-2.ensures.0 c.tag_width-2.ensures _ c.if-code-lt17.false c.requires.1 c.if-code-eq19.false c.ends.ensures c.if-ends.false
