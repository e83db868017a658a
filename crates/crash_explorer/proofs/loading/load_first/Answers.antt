use Rattle.std.proofs.Common.{◌+◌, ◌≡◌, ◌<◌, List, length, ◌∙◌, ap, arith}
use Rattle.disk_model.specs.declared.cells.TheConstants.{BODY}
use Rattle.disk_model.specs.Cells.{Cell, cell, cells_of, seen_cells}
use Rattle.disk_model.specs.DiskState.{Moment}
use Rattle.disk_model.specs.MemDisk.{state_of}
use Rattle.disk_model.specs.Moments.{seen_length, unchanged_from}
use Rattle.recovery.proofs.PartlyLoaded.{taken_more}
use Rattle.crash_explorer.proofs.Fronts.{asks-none}
use Rattle.crash_explorer.proofs.loading.load_first.Goals as goal

pub loop-k-preserved : goal.loop-k-preserved
loop-k-preserved c =
    let old = state_of c.args.disk.now in
    let mid = state_of c.loop-k.disk in
    let all : List Cell = seen_cells (BODY + 1) old in
    let inside : c.loop-k.k < length all = omega (arith, seen_length (BODY + 1) old, c.requires.inside) in
    let same : seen_cells (BODY + 1) mid ≡ all = ap (λ (m : Moment). cells_of (BODY + 1) m.seen) c.loop-k.invariant.kept.same.now in
    record {
      room = omega arith;
      long = omega arith;
      kept = record {
        same = unchanged_from old mid (state_of c.load_cell.new.disk) c.loop-k.invariant.kept.same c.load_cell.ensures.kept.same;
        rest = asks-none c.args.disk.now c.loop-k.disk c.load_cell.new.disk c.loop-k.invariant.kept.rest c.load_cell.ensures.kept.rest;
        failures = c.load_cell.ensures.kept.failures ∙ c.loop-k.invariant.kept.failures;
        unfused = c.load_cell.ensures.kept.unfused;
      };
      loaded = taken_more all c.loop-k.cells.items _ c.load_cell.result c.loop-k.k inside c.loop-k.invariant.loaded c.push_reserved.ensures.items
          (c.load_cell.ensures.cell ∙ ap (λ (l : List Cell). cell l c.loop-k.k) same);
    }
