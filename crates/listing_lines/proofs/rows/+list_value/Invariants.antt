use Rattle.rules.specs.Listing.{lines_below_i}
use Rattle.judge.specs.Table.{whole_value, whole_end, value_standing_at}
use Rattle.value_laws.proofs.Children.{children}
use Rattle.listing_lines.proofs.Walks.{Going}
use Prim.Native.Nat.{◌-◌}
use Rattle.listing_lines.proofs.rows.+list_value.Given as goal

abbrev pub decreases-list_value : goal.decreases-list_value
decreases-list_value l = l.depth

abbrev pub invariant-loop-done : goal.invariant-loop-done
invariant-loop-done l = Going l.records l.store (l.depth - 1) l.node.row (65 - (l.depth - 1)) (whole_end (value_standing_at l.records l.store l.depth l.node.at l.node.from)) l.initial.q (lines_below_i l.node.row (65 - (l.depth - 1)) (children (whole_value (value_standing_at l.records l.store l.depth l.node.at l.node.from)))) l.initial.text l.text l.q (l.count - l._done)
