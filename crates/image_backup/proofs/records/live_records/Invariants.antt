use Rattle.std.proofs.Common.{◌≡◌, ◌+◌, ◌-◌, true, false, length}
use Rattle.std.specs.List.{range_with_len}
use Rattle.disk_model.specs.Cells.{seen_cells}
use Rattle.disk_model.specs.DiskState.{Reads}
use Rattle.disk_model.specs.declared.cells.TheConstants.{BODY}
use Rattle.gated_journal.specs.Live.{live_among}
use Rattle.record_codec.specs.Ring.{record_cell}
use Rattle.image_backup.proofs.records.live_records.Given as goal

-- the numbers so far are live, and those of the rest come on top
abbrev pub invariant-loop-number : goal.invariant-loop-number
invariant-loop-number g l = record {
  reads : Reads false l.fn.cells l.cells;
  live : l.fn.cells.keeps ≡ true
      → length (live_among (seen_cells (BODY + 1) l.fn.cells) (record_cell l.atoms l.ring) (range_with_len l.base l.ring))
      ≡ (l.number - l.base) + length (live_among (seen_cells (BODY + 1) l.fn.cells) (record_cell l.atoms l.ring) (range_with_len l.number (l.base + l.ring - l.number)));
}
