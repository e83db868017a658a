use Rattle.std.proofs.Common.{◌+◌, sym, ◌∙◌, is_err}
use Rattle.disk_model.specs.declared.cells.TheConstants.{BODY}
use Rattle.disk_model.specs.DiskState.{DiskState}
use Rattle.disk_model.specs.Cells.{Filled}
use Rattle.disk_model.specs.Counting.{up_to_two, up_to_then}
use Rattle.disk_model.specs.Moments.{on_ok}
use Rattle.disk_model.proofs.Replacing.{full_inside, emptied_leaves, are_closed, filled_leaves, are_filled}
use Rattle.disk_model.proofs.cells.Cells.replace_run.Goals as goal

pub empty_run-requires-clause-inside : goal.empty_run-requires-clause-inside
empty_run-requires-clause-inside g c = full_inside (BODY + 1) c.args.self.now c.args.self.now c.args.ks.now c.args.full.now c.args.bodies.now c.requires.full c.requires.inside

pub returns-in_err-empty_run-clause-leaves : goal.returns-in_err-empty_run-clause-leaves
returns-in_err-empty_run-clause-leaves g c keeps =
    emptied_leaves (BODY + 1) c.args.self.now c.empty_run.new.self c.args.ks.now c.args.full.now c.args.bodies.now c.requires.full (c.empty_run.ensures.leaves keeps)

pub set_run-requires-clause-closed : goal.set_run-requires-clause-closed
set_run-requires-clause-closed g c still =
    let keeps = sym c.in_ok-empty_run.ensures.counts.keeps ∙ still in
    are_closed (BODY + 1) c.args.self.now c.empty_run.new.self c.args.ks.now c.args.full.now c.args.bodies.now c.requires.full (c.empty_run.ensures.leaves keeps) (c.in_ok-empty_run.ensures.erased keeps) keeps

pub returns-clause-counts : goal.returns-clause-counts
returns-clause-counts g c =
    up_to_then (is_err c.set_run.result) 1 2 c.args.self.now c.empty_run.new.self c.set_run.new.self c.in_ok-empty_run.ensures.counts (up_to_two c.set_run.result c.empty_run.new.self c.set_run.new.self c.set_run.ensures.counts)

pub returns-clause-leaves : goal.returns-clause-leaves
returns-clause-leaves g c keeps =
    filled_leaves (BODY + 1) c.args.self.now c.empty_run.new.self c.args.ks.now c.args.full.now c.args.bodies.now c.requires.full (c.empty_run.ensures.leaves keeps) (c.in_ok-empty_run.ensures.erased keeps) c.set_run.new.self
    c.in_ok-empty_run.ensures.counts.size (c.set_run.ensures.leaves (c.in_ok-empty_run.ensures.counts.keeps ∙ keeps))

pub returns-clause-replaced : goal.returns-clause-replaced
returns-clause-replaced g c keeps =
    let old : DiskState = c.args.self.now in
    let mid : DiskState = c.empty_run.new.self in
    let new : DiskState = c.set_run.new.self in
    on_ok c.set_run.result (Filled (BODY + 1) c.args.ks.now c.args.bodies.now mid new) (Filled (BODY + 1) c.args.ks.now c.args.bodies.now old new)
    (are_filled (BODY + 1) old mid c.args.ks.now c.args.full.now c.args.bodies.now c.requires.full (c.empty_run.ensures.leaves keeps) (c.in_ok-empty_run.ensures.erased keeps) new)
    (c.set_run.ensures.filled (c.in_ok-empty_run.ensures.counts.keeps ∙ keeps))
