use Rattle.std.proofs.Common.{◌<◌, ◌+◌, false, List, ℕ, length, sym, ◌∙◌, ap, subst, arith}
use Rattle.disk_model.specs.Cells.{Cell, cell, cells_in, seen_cells}
use Rattle.disk_model.specs.DiskState.{DiskState}
use Rattle.disk_model.specs.Moments.{seen_length}
use Rattle.disk_model.specs.Reading.{reads_seen, reads_then}
use Rattle.disk_model.specs.declared.cells.TheConstants.{BODY}
use Rattle.image_inspection.proofs.Loaded.{taken_more}
use Rattle.image_inspection.proofs.reading.load_first.Goals as goal

pub load_cell-requires : goal.load_cell-requires
load_cell-requires g c = subst (λ (n : ℕ). c.loop-k.k < cells_in (BODY + 1) n) (sym c.loop-k.invariant.reads.counts.size) (omega (arith, c.requires.inside))

pub loop-k-preserved : goal.loop-k-preserved
loop-k-preserved g c =
    let old : DiskState = g.C.ReadCells.state c.args.cells.now in
    let mid : DiskState = g.C.ReadCells.state c.loop-k.cells in
    let all : List Cell = seen_cells (BODY + 1) old in
    let inside : c.loop-k.k < length all = omega (arith, seen_length (BODY + 1) old, c.requires.inside) in
    record {
      room = omega arith;
      long = omega arith;
      reads = reads_then {failed = false} old mid (g.C.ReadCells.state c.load_cell.new.self) c.loop-k.invariant.reads c.in_ok-load_cell.ensures.reads;
      loaded = λ keeps.
          taken_more all c.loop-k.list.items _ c.in_ok-load_cell.field-0 c.loop-k.k inside (c.loop-k.invariant.loaded keeps) c.push_reserved.ensures.items
          (c.in_ok-load_cell.ensures.loaded (c.loop-k.invariant.reads.counts.keeps ∙ keeps) ∙ ap (λ (l : List Cell). cell l c.loop-k.k) (reads_seen (BODY + 1) old mid c.loop-k.invariant.reads keeps));
    }
