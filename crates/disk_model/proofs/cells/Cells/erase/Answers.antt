use Rattle.disk_model.proofs.cells.Cells.erase.Goals as goal

pub returns-clause-leaves : goal.returns-clause-leaves
returns-clause-leaves g c = c.erase_run.ensures.leaves

pub returns-clause-erased : goal.returns-clause-erased
returns-clause-erased g c = c.erase_run.ensures.erased
