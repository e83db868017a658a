use Rattle.disk_model.proofs.memory.MemDisk.new.Goals as goal

pub returns-clause-cell : goal.returns-clause-cell
returns-clause-cell c = c.with_cells.ensures.cell
