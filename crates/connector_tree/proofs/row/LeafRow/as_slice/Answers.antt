use Rattle.connector_tree.proofs.row.LeafRow.as_slice.Goals as goal

pub returns : goal.returns
returns c = c.self.view_is
