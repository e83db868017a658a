-- So many cells were loaded, and only reading was done.
use Rattle.std.proofs.Common.{◌≡◌, ◌+◌, true, false, take, vec_len, vec_capacity}
use Rattle.disk_model.specs.Cells.{seen_cells}
use Rattle.disk_model.specs.DiskState.{Reads}
use Rattle.disk_model.specs.declared.cells.TheConstants.{BODY}
use Rattle.image_inspection.proofs.reading.load_first.Given as goal

abbrev pub invariant-loop-k : goal.invariant-loop-k
invariant-loop-k g l = record {
  room : vec_capacity l.list ≡ l.count;
  long : vec_len l.list ≡ l.k;
  reads : Reads false (g.C.ReadCells.state l.fn.cells) (g.C.ReadCells.state l.cells);
  loaded : (g.C.ReadCells.state l.fn.cells).keeps ≡ true → l.list.items ≡ take l.k (seen_cells (BODY + 1) (g.C.ReadCells.state l.fn.cells));
}
