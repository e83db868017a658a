use Rattle.disk_model.proofs.cells.Cells.set_run.Goals as goal

pub returns-clause-leaves : goal.returns-clause-leaves
returns-clause-leaves g c = rw c.self.view_is at c.set_all.ensures.leaves

pub returns-clause-filled : goal.returns-clause-filled
returns-clause-filled g c = rw c.self.view_is at c.set_all.ensures.filled
