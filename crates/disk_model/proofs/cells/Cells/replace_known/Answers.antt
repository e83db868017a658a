use Rattle.std.proofs.Common.{◌+◌, [], ◌∷◌}
use Rattle.disk_model.specs.declared.cells.TheConstants.{BODY}
use Rattle.disk_model.specs.DiskState.{DiskState}
use Rattle.disk_model.specs.Cells.{Filled, Replaced}
use Rattle.disk_model.specs.Moments.{on_ok}
use Rattle.disk_model.proofs.Replacing.{one_leaves, one_replaced}
use Rattle.disk_model.proofs.cells.Cells.replace_known.Goals as goal

pub returns-clause-leaves : goal.returns-clause-leaves
returns-clause-leaves g c keeps =
    one_leaves (BODY + 1) c.args.k c.args.body.now c.args.self.now c.replace_run.new.self (rw c.from_ref.ensures.value at (c.replace_run.ensures.leaves keeps))

pub returns-clause-replaced : goal.returns-clause-replaced
returns-clause-replaced g c keeps =
    let old : DiskState = c.args.self.now in
    let new : DiskState = c.replace_run.new.self in
    on_ok c.replace_run.result (Filled (BODY + 1) (c.args.k ∷ []) (c.args.body.now ∷ []) old new) (Replaced (BODY + 1) c.args.k c.args.body.now old new)
    (one_replaced (BODY + 1) c.args.k c.args.body.now old new c.replace_run.ensures.counts.size)
    (rw c.from_ref.ensures.value at (c.replace_run.ensures.replaced keeps))
