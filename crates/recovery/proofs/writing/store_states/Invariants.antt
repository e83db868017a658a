use Rattle.std.proofs.Common.{◌+◌, ◌*◌, ◌≡◌, true, false}
use Rattle.disk_model.specs.declared.cells.TheConstants.{BODY}
use Rattle.disk_model.specs.DiskState.{CountsUpTo}
use Rattle.disk_model.specs.Cells.{Leaves, cell, seen_cells}
use Rattle.record_codec.specs.Ring.{identity_cell}
use Rattle.recovery.specs.Writing.{HasStoredStates}
use Rattle.recovery.proofs.writing.store_states.Given as goal

abbrev pub invariant-loop-atom : goal.invariant-loop-atom
invariant-loop-atom g l = record {
  counts : CountsUpTo false (3 * l.atom) l.initial.cells l.cells;
  stops : l.initial.cells.keeps ≡ true → Leaves (BODY + 1) (λ left. cell left identity_cell ≡ cell (seen_cells (BODY + 1) l.initial.cells) identity_cell) l.initial.cells l.cells;
  stored : l.initial.cells.keeps ≡ true → HasStoredStates l.atom l.states l.counts l.number l.initial.cells l.cells;
}
