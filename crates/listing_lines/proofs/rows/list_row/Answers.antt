-- The root is a node like any other.
-- Assumes nothing.
use Rattle.listing_lines.proofs.Walks.{root_listable, row_listed}
use Rattle.listing_lines.proofs.rows.list_row.Goals as goal

pub list_value-q-requires : goal.list_value-q-requires
list_value-q-requires c = root_listable _ _ _ c.requires

pub returns : goal.returns
returns c = let both = row_listed _ _ _ c.requires _ _ _ _ c.list_value-q.ensures in
    record { text_put = both.0; upper_bound = both.1 }
