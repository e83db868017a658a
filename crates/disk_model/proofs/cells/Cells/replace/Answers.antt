use Rattle.std.proofs.Common.{◌+◌, ◌∙◌}
use Rattle.disk_model.specs.declared.cells.TheConstants.{BODY}
use Rattle.disk_model.proofs.Replacing.{read_leaves, read_then_leaves}
use Rattle.disk_model.proofs.cells.Cells.replace.Goals as goal

pub returns-in_err-full-clause-leaves : goal.returns-in_err-full-clause-leaves
returns-in_err-full-clause-leaves g c keeps =
    read_leaves (BODY + 1) c.args.k c.args.body.now c.args.self.now c.read_cell.new.self c.in_err-full.ensures.reads keeps (c.requires.settled keeps)

pub returns-clause-leaves : goal.returns-clause-leaves
returns-clause-leaves g c keeps =
    read_then_leaves (BODY + 1) c.args.k c.args.body.now c.args.self.now c.read_cell.new.self c.replace_known.new.self c.in_ok-full.ensures.reads keeps (c.requires.settled keeps)
    (c.replace_known.ensures.leaves (c.in_ok-full.ensures.reads.counts.keeps ∙ keeps))
