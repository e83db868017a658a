use Rattle.std.proofs.Common.{◌≡◌, true, false, take, vec_len, vec_capacity}
use Rattle.disk_model.specs.Cells.{seen_cells}
use Rattle.disk_model.specs.DiskState.{Reads}
use Rattle.recovery.proofs.loading.load_cells.Given as goal

abbrev pub invariant-loop-k : goal.invariant-loop-k
invariant-loop-k g l = record {
  room : vec_capacity l.list ≡ l.count;
  long : vec_len l.list ≡ l.k;
  reads : Reads false (g.C.ReadAsToday.state l.fn.cells) (g.C.ReadAsToday.state l.cells);
  loaded : (g.C.ReadAsToday.state l.fn.cells).keeps ≡ true
      → l.list.items ≡ take l.k (g.C.ReadAsToday.todays l.atoms (seen_cells g.C.ReadAsToday.bytes_of_cell (g.C.ReadAsToday.state l.fn.cells)));
}
