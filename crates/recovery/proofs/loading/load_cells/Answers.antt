use Rattle.std.proofs.Common.{◌<◌, false, List, ℕ, length, sym, ◌∙◌, ap, subst, arith}
use Rattle.disk_model.specs.Cells.{Cell, cell, cells_in, seen_cells}
use Rattle.disk_model.specs.DiskState.{DiskState}
use Rattle.disk_model.specs.Moments.{seen_length}
use Rattle.disk_model.specs.Reading.{reads_seen, reads_then}
use Rattle.recovery.proofs.PartlyLoaded.{taken_more}
use Rattle.recovery.proofs.loading.load_cells.Goals as goal

pub load_cell-requires : goal.load_cell-requires
load_cell-requires g c =
    let size : ℕ = g.C.ReadAsToday.bytes_of_cell in
    subst (λ (n : ℕ). c.loop-k.k < cells_in size n) (sym c.loop-k.invariant.reads.counts.size) (omega (arith, c.requires.inside))

pub loop-k-preserved : goal.loop-k-preserved
loop-k-preserved g c =
    let size : ℕ = g.C.ReadAsToday.bytes_of_cell in
    let old : DiskState = g.C.ReadAsToday.state c.args.cells.now in
    let mid : DiskState = g.C.ReadAsToday.state c.loop-k.cells in
    let given : List Cell = seen_cells size old in
    let all : List Cell = g.C.ReadAsToday.todays c.args.atoms given in
    let inside : c.loop-k.k < length all = omega (arith, g.met.C.ReadAsToday.as_many c.args.atoms given, seen_length size old, c.requires.inside) in
    record {
      room = omega arith;
      long = omega arith;
      reads = reads_then {failed = false} old mid (g.C.ReadAsToday.state c.load_cell.new.self) c.loop-k.invariant.reads c.in_ok-load_cell.ensures.reads;
      loaded = λ keeps.
          let same = reads_seen size old mid c.loop-k.invariant.reads keeps in
          taken_more all c.loop-k.list.items _ c.in_ok-load_cell.field-0 c.loop-k.k inside (c.loop-k.invariant.loaded keeps) c.push_reserved.ensures.items
          (c.in_ok-load_cell.ensures.loaded (c.loop-k.invariant.reads.counts.keeps ∙ keeps) ∙ ap (λ (l : List Cell). cell (g.C.ReadAsToday.todays c.args.atoms l) c.loop-k.k) same);
    }
