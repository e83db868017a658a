use Rattle.disk_model.proofs.cells.Cells.read_cell.Goals as goal

pub returns-clause-cell : goal.returns-clause-cell
returns-clause-cell g c = rw c.self.view_is at c.read_full.ensures.cell
