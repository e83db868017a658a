-- The first atoms were looked at.
use Rattle.std.proofs.Common.{◌≡◌, ◌+◌, true, false}
use Rattle.disk_model.specs.Cells.{seen_cells}
use Rattle.disk_model.specs.DiskState.{Reads}
use Rattle.disk_model.specs.declared.cells.TheConstants.{BODY}
use Rattle.step_executor.specs.Executing.{committed_in}
use Rattle.plant_core.specs.Saves.{AreSmall, batch_of, states_in}
use Rattle.plant_core.specs.Snapshots.{copies_below}
use Rattle.plant_core.proofs.saving.gather.Given as goal

abbrev pub invariant-loop-atom : goal.invariant-loop-atom
invariant-loop-atom g l = record {
  states : states_in l.batch ≡ copies_below l.snapshots.saved l.counts l.number (committed_in l.executor) l.atom;
  batch : l.initial.cells.keeps ≡ true → l.batch ≡ batch_of (seen_cells (BODY + 1) l.initial.cells) (copies_below l.snapshots.saved l.counts l.number (committed_in l.executor) l.atom);
  small : AreSmall l.batch;
  reads : Reads false l.initial.cells l.cells;
}
