use Rattle.std.proofs.Common.{◌≡◌, ◌+◌, ◌*◌, ◌<◌, ◌≤◌, ℕ, List, Some, sym, ◌∙◌, ap, subst, arith, length, refl, is_some, true, false}
use Rattle.std.specs.Prelude.{slice_get}
use Rattle.petri_atom.specs.Local.{Local}
use Rattle.disk_model.specs.Cells.{Cell, Leaves, cell, seen_cells}
use Rattle.disk_model.specs.DiskState.{DiskState}
use Rattle.disk_model.specs.Moments.{leaves_then}
use Rattle.disk_model.specs.Reading.{reads_leave, reads_seen}
use Rattle.disk_model.specs.declared.cells.TheConstants.{BODY}
use Rattle.record_codec.specs.Saved.{SavedFields}
use Rattle.snapshot_writer.specs.Batches.{HaveStored, SlottedFields, cell_of}
use Rattle.step_executor.specs.Executing.{committed_in, plant_in}
use Rattle.plant_core.specs.Saves.{batch_of}
use Rattle.plant_core.specs.Snapshots.{copies_behind}
use Rattle.plant_core.proofs.Behind.{below-within}
use Rattle.plant_core.proofs.SavedAll.{made-of, none-stored-yet, state-of}
use Rattle.plant_core.proofs.saving.store_behind.Goals as goal

pub returns-in_err-gather-clause-leaves : goal.returns-in_err-gather-clause-leaves
returns-in_err-gather-clause-leaves g c = λ keeps.
    let old : DiskState = c.args.cells.now in
    let before : List Cell = seen_cells (BODY + 1) old in
    let states : List SavedFields = copies_behind c.args.snapshots.now.saved c.args.counts.now c.args.number (committed_in c.args.executor.now) in
    reads_leave (BODY + 1) (HaveStored (batch_of before states) before) old c.gather.new.cells c.gather.ensures.reads keeps (none-stored-yet (batch_of before states) old (c.requires.settled keeps))

pub store_batch-requires-clause-inside : goal.store_batch-requires-clause-inside
store_batch-requires-clause-inside g c i s at =
    let known = c.args.snapshots.now.saved in
    let counts : List ℕ = c.args.counts.now in
    let states : List Local = committed_in c.args.executor.now in
    let there : slice_get (copies_behind known counts c.args.number states) i ≡ Some s.saved = state-of c.gather.new.batch (copies_behind known counts c.args.number states) c.in_ok-gather.ensures.states i s at in
    omega (arith, below-within known counts c.args.number states (length states) i s.saved there, c.gather.ensures.small i s at, c.requires.inside, c.requires.savable.of_plant, c.gather.ensures.reads.counts.size)

pub store_batch-requires-clause-full : goal.store_batch-requires-clause-full
store_batch-requires-clause-full g c = λ keeps i s at.
    let old : DiskState = c.args.cells.now in
    let before : List Cell = seen_cells (BODY + 1) old in
    let states : List SavedFields = copies_behind c.args.snapshots.now.saved c.args.counts.now c.args.number (committed_in c.args.executor.now) in
    let kept : old.keeps ≡ true = sym c.in_ok-gather.ensures.reads.counts.keeps ∙ keeps in
    let same : seen_cells (BODY + 1) c.gather.new.cells ≡ before = reads_seen (BODY + 1) old c.gather.new.cells c.in_ok-gather.ensures.reads kept in
    let made = made-of before states i s (ap (λ (b : List SlottedFields). slice_get b i) (sym (c.in_ok-gather.ensures.batch kept)) ∙ at) in
    ap (λ (cells : List Cell). is_some (cell cells (cell_of s))) same ∙ subst (λ (t : SlottedFields). is_some (cell before (cell_of t)) ≡ t.full) made.2 refl

pub returns-clause-leaves : goal.returns-clause-leaves
returns-clause-leaves g c = λ keeps.
    let old : DiskState = c.args.cells.now in
    let mid : DiskState = c.gather.new.cells in
    let new : DiskState = c.store_batch.new.cells in
    let before : List Cell = seen_cells (BODY + 1) old in
    let states : List SavedFields = copies_behind c.args.snapshots.now.saved c.args.counts.now c.args.number (committed_in c.args.executor.now) in
    let P : List Cell → Type 0 = HaveStored (batch_of before states) before in
    let reads = c.in_ok-gather.ensures.reads in
    let same : seen_cells (BODY + 1) mid ≡ before = reads_seen (BODY + 1) old mid reads keeps in
    leaves_then (BODY + 1) P old mid new
    (reads_leave (BODY + 1) P old mid reads keeps (none-stored-yet (batch_of before states) old (c.requires.settled keeps)))
    (subst (λ (b : List SlottedFields). Leaves (BODY + 1) (HaveStored b before) mid new) (c.in_ok-gather.ensures.batch keeps)
    (subst (λ (cells : List Cell). Leaves (BODY + 1) (HaveStored c.gather.new.batch cells) mid new) same (c.store_batch.ensures.leaves (reads.counts.keeps ∙ keeps))))
