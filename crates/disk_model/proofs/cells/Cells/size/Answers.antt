use Rattle.disk_model.proofs.cells.Cells.size.Goals as goal

pub returns-clause-size : goal.returns-clause-size
returns-clause-size g c = rw c.self.view_is at c.size.ensures.size
