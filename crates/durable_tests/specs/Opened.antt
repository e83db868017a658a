-- A journal of the tests on its device, of which contracts say nothing but the size and the counts.
use Rattle.std.specs.Prelude.{◌≡◌, ◌+◌, ◌≤◌, false}
use Rattle.disk_model.specs.declared.cells.TheConstants.{BODY}
use Rattle.disk_model.specs.DiskState.{DiskState}
use Rattle.disk_model.specs.Cells.{cell_count}
use Rattle.gated_journal.specs.declared.ring.Ring.{Ring}
use Rattle.gated_journal.specs.Rings.{IsRing, cells_of_ring}

-- the journal has these numbers, and its device has its cells
pub record IsOpened (numbers journal : Ring) (s : DiskState) : Type 0 where
  pub ring : IsRing numbers
  pub same : journal ≡ numbers
  pub untold : s.keeps ≡ false
  pub inside : cells_of_ring numbers ≤ cell_count (BODY + 1) s
