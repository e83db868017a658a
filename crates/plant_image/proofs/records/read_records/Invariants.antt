use Rattle.std.proofs.Common.{◌≡◌, ◌+◌, ◌-◌, ◌≤◌, ◌++◌, length, vec_len, vec_capacity}
use Rattle.std.specs.List.{range_with_len}
use Rattle.gated_journal.specs.Live.{live_among}
use Rattle.record_codec.specs.Ring.{record_cell}
use Rattle.record_codec.specs.declared.layout.TheConstants.{LAST_NUMBER}
use Rattle.plant_model.specs.System.{plant_of}
use Rattle.plant_image.specs.Faults.{numbers_fault}
use Rattle.plant_image.proofs.records.read_records.Given as goal

-- the whole is what was read, and the answer for the rest
abbrev pub invariant-loop-number : goal.invariant-loop-number
invariant-loop-number l = record {
  room : vec_capacity l.records ≡ l.ring;
  long : l.base + vec_len l.records ≡ l.number;
  read : live_among l.cells (record_cell (length (plant_of l.system).atoms) l.ring) (range_with_len l.base l.ring)
      ≡ l.records.items ++ live_among l.cells (record_cell (length (plant_of l.system).atoms) l.ring) (range_with_len l.number (l.base + l.ring - l.number));
  rest : numbers_fault (plant_of l.system) l.cells l.ring (range_with_len l.base l.ring)
      ≡ numbers_fault (plant_of l.system) l.cells l.ring (range_with_len l.number (l.base + l.ring - l.number));
  in_range : l.number ≤ LAST_NUMBER + 1;
}
