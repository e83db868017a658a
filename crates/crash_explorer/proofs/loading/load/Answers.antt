use Rattle.std.proofs.Common.{◌+◌, ◌≡◌, ◌/◌, ◌≤◌, length, ◌∙◌, ap, arith}
use Rattle.std.proofs.lemmas.List.{take_all}
use Rattle.std.proofs.lemmas.Result.{IfOk-weaker}
use Rattle.disk_model.specs.declared.cells.TheConstants.{BODY}
use Rattle.disk_model.specs.Cells.{cells_of, seen_cells}
use Rattle.disk_model.specs.DiskState.{DiskState, Moment}
use Rattle.disk_model.specs.MemDisk.{state_of}
use Rattle.disk_model.specs.Moments.{seen_length}
use Rattle.crash_explorer.proofs.loading.load.Goals as goal

pub returns-clause-cells : goal.returns-clause-cells
returns-clause-cells c =
    let old : DiskState = state_of c.args.disk.now in
    let mid : DiskState = state_of c.size-count.new.disk in
    let now : mid.now ≡ old.now = c.size-count.ensures.kept.same.now in
    let same : seen_cells (BODY + 1) mid ≡ seen_cells (BODY + 1) old = ap (λ (m : Moment). cells_of (BODY + 1) m.seen) now in
    let size : length mid.now.seen ≡ length old.now.seen = ap (λ (m : Moment). length m.seen) now in
    let all : length (seen_cells (BODY + 1) mid) ≤ c.size-count.result / (BODY + 1) = omega (arith, seen_length (BODY + 1) mid, size, c.size-count.ensures.size) in
    IfOk-weaker c.load_first.result _ _ (λ cells is. is ∙ take_all (c.size-count.result / (BODY + 1)) (seen_cells (BODY + 1) mid) all ∙ same) c.load_first.ensures.cells
