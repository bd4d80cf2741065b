use Rattle.write.proofs.Root.{tag_fits, root_in, root_writable, root_parted, row_placed}
use Rattle.write.proofs.put.put_row.Goals as goal

pub put16-requires : goal.put16-requires
put16-requires c = tag_fits _ _ _ _ _ c.requires

pub value_record_at-own-requires : goal.value_record_at-own-requires
value_record_at-own-requires c = root_in _ _ _ _ _ c.requires

pub put_children-q-requires : goal.put_children-q-requires
put_children-q-requires c = (root_writable _ _ _ _ _ c.requires _ c.put16.auto.s, root_parted _ _ _ _ _ c.requires _ c.value_record_at-own.ensures _ c.node_code-code.ensures)

pub returns : goal.returns
returns c = let both = row_placed _ _ _ _ _ c.requires _ _ _ _ c.put16.ensures c.put_children-q.ensures in
    record { next = both.0; out = both.1 }
