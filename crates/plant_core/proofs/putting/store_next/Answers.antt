use Rattle.std.proofs.Common.{◌≡◌, ◌+◌, ◌∙◌, ap, false, ℕ}
use Rattle.disk_model.specs.Cells.{seen_cells}
use Rattle.disk_model.specs.Reading.{reads_leave}
use Rattle.disk_model.specs.declared.cells.TheConstants.{BODY}
use Rattle.record_codec.specs.Saved.{SavedFields}
use Rattle.snapshot_writer.specs.Slots.{other_slot}
use Rattle.snapshot_writer.specs.Storing.{HasStored}
use Rattle.plant_core.proofs.Stored.{nothing-stored, stored-behind-reads}
use Rattle.plant_core.proofs.putting.store_next.Goals as goal

pub returns-in_err-free-clause-leaves : goal.returns-in_err-free-clause-leaves
returns-in_err-free-clause-leaves g c = λ keeps.
    let old = c.args.cells.now in
    let saved = c.args.encoded.now in
    let free = other_slot saved.atom (seen_cells (BODY + 1) old) in
    reads_leave (BODY + 1) (HasStored free saved (seen_cells (BODY + 1) old)) old c.free_slot.new.cells c.free_slot.ensures.reads keeps (nothing-stored free saved old (c.requires.settled keeps))

pub returns-clause-leaves : goal.returns-clause-leaves
returns-clause-leaves g c = λ keeps.
    let found = c.in_ok-free.ensures in
    let own : c.atom.result ≡ c.args.encoded.now.atom = c.atom.ensures.value ∙ ap (λ (s : SavedFields). s.atom) c.parcel.ensures in
    stored-behind-reads {failed = false} c.in_ok-free.free.slot (other_slot c.args.encoded.now.atom (seen_cells (BODY + 1) c.args.cells.now)) c.args.encoded.now c.args.cells.now c.free_slot.new.cells c.store.new.cells (c.requires.settled keeps) found.reads keeps (found.slot keeps ∙ ap (λ (n : ℕ). other_slot n (seen_cells (BODY + 1) c.args.cells.now)) own) (c.store.ensures.leaves (found.reads.counts.keeps ∙ keeps))
