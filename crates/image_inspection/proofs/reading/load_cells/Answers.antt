use Rattle.std.proofs.Common.{◌≡◌, ◌∙◌, ◌+◌, ◌/◌, ap, ℕ, List, min}
use Rattle.std.proofs.lemmas.Result.{IfOk-weaker}
use Rattle.disk_model.specs.Cells.{Cell, cells_in, seen_cells}
use Rattle.disk_model.specs.DiskState.{DiskState, size_of}
use Rattle.disk_model.specs.Moments.{seen_length}
use Rattle.disk_model.specs.declared.cells.TheConstants.{BODY}
use Rattle.image_inspection.specs.Inspected.{most_cells}
use Rattle.image_inspection.proofs.Loaded.{taken}
use Rattle.image_inspection.proofs.reading.load_cells.Goals as goal

pub returns-clause-loaded : goal.returns-clause-loaded
returns-clause-loaded g c keeps =
    let old : DiskState = g.C.ReadCells.state c.args.cells.now in
    let all : List Cell = seen_cells (BODY + 1) old in
    let count : c.min-count.result ≡ min most_cells (cells_in (BODY + 1) (size_of old)) =
    c.min-count.ensures ∙ ap (λ (m : ℕ). min m (c.args.bytes / (BODY + 1))) c.device_cells.ensures ∙ ap (λ (n : ℕ). min most_cells (n / (BODY + 1))) c.requires in
    IfOk-weaker c.load_first.result _ _ (λ list is. is ∙ taken most_cells (cells_in (BODY + 1) (size_of old)) c.min-count.result all (seen_length (BODY + 1) old) count) (c.load_first.ensures.loaded keeps)
