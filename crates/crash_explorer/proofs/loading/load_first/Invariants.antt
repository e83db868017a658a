use Rattle.std.proofs.Common.{◌≡◌, ◌+◌, take, vec_len, vec_capacity}
use Rattle.disk_model.specs.Cells.{seen_cells}
use Rattle.disk_model.specs.MemDisk.{state_of}
use Rattle.disk_model.specs.declared.cells.TheConstants.{BODY}
use Rattle.crash_explorer.specs.Judging.{IsKept}
use Rattle.crash_explorer.proofs.loading.load_first.Given as goal

abbrev pub invariant-loop-k : goal.invariant-loop-k
invariant-loop-k l = record {
  room : vec_capacity l.cells ≡ l.count;
  long : vec_len l.cells ≡ l.k;
  kept : IsKept l.fn.disk l.disk;
  loaded : l.cells.items ≡ take l.k (seen_cells (BODY + 1) (state_of l.fn.disk));
}
