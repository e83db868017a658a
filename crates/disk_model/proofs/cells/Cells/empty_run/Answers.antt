use Rattle.std.proofs.Common.{◌+◌}
use Rattle.disk_model.specs.declared.cells.TheConstants.{BODY}
use Rattle.disk_model.proofs.Replacing.{erased_leaves}
use Rattle.disk_model.proofs.cells.Cells.empty_run.Goals as goal

pub returns-clause-leaves : goal.returns-clause-leaves
returns-clause-leaves g c keeps = erased_leaves (BODY + 1) c.args.self.now c.erase_full_run.new.self c.args.ks.now (c.requires.settled keeps) (c.erase_full_run.ensures.leaves keeps)
