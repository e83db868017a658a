use Rattle.std.proofs.Common.{◌+◌, ℕ, subst}
use Rattle.disk_model.specs.declared.cells.TheConstants.{BODY}
use Rattle.disk_model.specs.DiskState.{DiskState}
use Rattle.disk_model.specs.Cells.{seen_cells, Leaves, OldEmptyOrNewAt, Replaced}
use Rattle.disk_model.specs.Moments.{on_ok}
use Rattle.record_codec.specs.Saved.{SavedFields}
use Rattle.snapshot_writer.specs.Storing.{IsStored}
use Rattle.snapshot_writer.proofs.StoredCells.{store_leaves, is_stored}
use Rattle.snapshot_writer.proofs.storing.store.Goals as goal

pub returns-clause-leaves : goal.returns-clause-leaves
returns-clause-leaves g c keeps =
    let old : DiskState = c.args.cells.now in
    let new : DiskState = c.replace_known.new.self in
    let saved : SavedFields = c.args.encoded.now in
    store_leaves c.args.free.slot saved c.body.result.now c.body.ensures old new
    (subst (λ (k : ℕ). Leaves (BODY + 1) (OldEmptyOrNewAt k c.body.result.now (seen_cells (BODY + 1) old)) old new) c.cell.ensures (c.replace_known.ensures.leaves keeps))

pub returns-clause-stored : goal.returns-clause-stored
returns-clause-stored g c keeps =
    let old : DiskState = c.args.cells.now in
    let new : DiskState = c.replace_known.new.self in
    let saved : SavedFields = c.args.encoded.now in
    let body = c.body.result.now in
    on_ok c.replace_known.result (Replaced (BODY + 1) c.cell.result body old new) (IsStored c.args.free.slot saved old new)
    (λ done. is_stored c.args.free.slot saved body c.body.ensures old new (subst (λ (k : ℕ). Replaced (BODY + 1) k body old new) c.cell.ensures done))
    (c.replace_known.ensures.replaced keeps)
