use Rattle.std.proofs.Common.{◌+◌, sym, ◌∙◌, ap, Some, None, if◌then◌else◌, Bool}
use Rattle.disk_model.specs.Cells.{seen_cells}
use Rattle.disk_model.specs.declared.cells.TheConstants.{FIRST_BODY}
use Rattle.recovery.specs.OldImage.{todays_cell}
use Rattle.recovery.proofs.OldCells.{cell-todays_cells}
use Rattle.recovery.proofs.reading.FirstCellsReadAsToday.load_cell.Goals as goal

pub returns-then-branch-clause-loaded : goal.returns-then-branch-clause-loaded
returns-then-branch-clause-loaded g c keeps =
    ap Some c.todays_body_at.ensures
    ∙ sym (cell-todays_cells c.args.atoms c.args.k (seen_cells (FIRST_BODY + 1) c.args.self.now.cells)
    ∙ ap (todays_cell c.args.atoms c.args.k) (c.in_ok-read_cell.ensures.cell keeps ∙ ap (λ (full : Bool). if full then Some c.read_cell.new.body else None) c.if-branch.true))

pub returns-else-branch-clause-loaded : goal.returns-else-branch-clause-loaded
returns-else-branch-clause-loaded g c keeps =
    sym (cell-todays_cells c.args.atoms c.args.k (seen_cells (FIRST_BODY + 1) c.args.self.now.cells)
    ∙ ap (todays_cell c.args.atoms c.args.k) (c.in_ok-read_cell.ensures.cell keeps ∙ ap (λ (full : Bool). if full then Some c.read_cell.new.body else None) c.if-branch.false))
