use Rattle.std.proofs.Common.{◌≡◌, ◌+◌, ℕ, List, sym, ◌∙◌, ap, subst}
use Rattle.disk_model.specs.declared.cells.TheConstants.{BODY}
use Rattle.disk_model.specs.DiskState.{DiskState}
use Rattle.disk_model.specs.Cells.{seen_cells, Filled, Leaves, OldEmptyOrNewRun}
use Rattle.disk_model.specs.Moments.{on_ok}
use Rattle.disk_model.specs.Steps.{AllDiffer, AreInside, AreTheFull}
use Rattle.snapshot_writer.specs.Batches.{SlottedFields, AreStored, IsBatch, bodies_of, cells_of, full_cells_of}
use Rattle.snapshot_writer.proofs.Batched.{are_stored, are_the_full, batch_leaves, cells_differ, cells_inside}
use Rattle.snapshot_writer.proofs.storing.store_batch.Goals as goal

-- the three lists are those of the batch
cells_are : (g : _) (c : goal.After-deref-3 g) → c.deref.result.now ≡ cells_of c.args.batch.now
cells_are g c = c.deref.ensures.value ∙ c.batch.invariant.parts.cells_are ∙ ap cells_of c.batch.view_is

full_are : (g : _) (c : goal.After-deref-3 g) → c.deref-2.result.now ≡ full_cells_of c.args.batch.now
full_are g c = c.deref-2.ensures.value ∙ c.batch.invariant.parts.full_are ∙ ap full_cells_of c.batch.view_is

is_batch : (g : _) (c : goal.After-deref-3 g) → IsBatch c.args.batch.now
is_batch g c = subst IsBatch c.batch.view_is c.batch.invariant.parts.batch_is

pub replace_run-requires-clause-differ : goal.replace_run-requires-clause-differ
replace_run-requires-clause-differ g c = subst AllDiffer (sym (cells_are g c)) (cells_differ c.args.batch.now (is_batch g c))

pub replace_run-requires-clause-inside : goal.replace_run-requires-clause-inside
replace_run-requires-clause-inside g c = subst (AreInside (BODY + 1) c.args.cells.now) (sym (cells_are g c)) (cells_inside c.args.batch.now c.args.cells.now c.requires.inside)

pub replace_run-requires-clause-full : goal.replace_run-requires-clause-full
replace_run-requires-clause-full g c =
    let s : DiskState = c.args.cells.now in
    subst (λ (ks : List ℕ). AreTheFull (BODY + 1) s ks c.deref-2.result.now) (sym (cells_are g c))
    (subst (λ (full : List ℕ). AreTheFull (BODY + 1) s (cells_of c.args.batch.now) full) (sym (full_are g c)) (are_the_full c.args.batch.now (is_batch g c) s c.requires.full))

pub returns-clause-leaves : goal.returns-clause-leaves
returns-clause-leaves g c keeps =
    let batch : List SlottedFields = c.args.batch.now in
    let old : DiskState = c.args.cells.now in
    let new : DiskState = c.replace_run.new.self in
    let cells : c.deref.result.now ≡ cells_of batch = c.deref.ensures.value ∙ c.batch.invariant.parts.cells_are ∙ ap cells_of c.batch.view_is in
    let bodies : c.deref-3.result.now ≡ bodies_of batch = c.deref-3.ensures.value ∙ c.batch.invariant.parts.bodies_are ∙ ap bodies_of c.batch.view_is in
    batch_leaves batch (subst IsBatch c.batch.view_is c.batch.invariant.parts.batch_is) old new
    (subst (λ (ks : List ℕ). Leaves (BODY + 1) (OldEmptyOrNewRun ks (bodies_of batch) (seen_cells (BODY + 1) old)) old new) cells
    (subst (λ (rows : List (List ℕ)). Leaves (BODY + 1) (OldEmptyOrNewRun c.deref.result.now rows (seen_cells (BODY + 1) old)) old new) bodies (c.replace_run.ensures.leaves keeps)))

pub returns-clause-stored : goal.returns-clause-stored
returns-clause-stored g c keeps =
    let batch : List SlottedFields = c.args.batch.now in
    let old : DiskState = c.args.cells.now in
    let new : DiskState = c.replace_run.new.self in
    let cells : c.deref.result.now ≡ cells_of batch = c.deref.ensures.value ∙ c.batch.invariant.parts.cells_are ∙ ap cells_of c.batch.view_is in
    let bodies : c.deref-3.result.now ≡ bodies_of batch = c.deref-3.ensures.value ∙ c.batch.invariant.parts.bodies_are ∙ ap bodies_of c.batch.view_is in
    on_ok c.replace_run.result (Filled (BODY + 1) c.deref.result.now c.deref-3.result.now old new) (AreStored batch old new)
    (λ filled. are_stored batch (subst IsBatch c.batch.view_is c.batch.invariant.parts.batch_is) old new c.replace_run.ensures.counts.size
    (subst (λ (ks : List ℕ). Filled (BODY + 1) ks (bodies_of batch) old new) cells (subst (λ (rows : List (List ℕ)). Filled (BODY + 1) c.deref.result.now rows old new) bodies filled)))
    (c.replace_run.ensures.replaced keeps)
