use Rattle.disk_model.proofs.cells.Cells.erase_full_run.Goals as goal

pub returns-clause-leaves : goal.returns-clause-leaves
returns-clause-leaves g c = rw c.self.view_is at c.erase_all.ensures.leaves

pub returns-clause-erased : goal.returns-clause-erased
returns-clause-erased g c = rw c.self.view_is at c.erase_all.ensures.erased
