-- A plant takes a state to be stored: it may go in the free slot of its atom, and is newer than what is saved.
use Rattle.std.proofs.Common.{◌≡◌, inl, inr, ℕ, ◌+◌, ◌<◌, List, length, slice_get, arith, refl, Option}
use Rattle.petri_atom.specs.Definition.{AtomDefinition}
use Rattle.disk_model.specs.Cells.{Cell, Leaves, seen_cells}
use Rattle.disk_model.specs.DiskState.{DiskState, size_of}
use Rattle.disk_model.specs.declared.cells.TheConstants.{BODY}
use Rattle.gated_journal.specs.declared.ring.Ring.{Ring}
use Rattle.record_codec.specs.Saved.{SavedFields}
use Rattle.snapshot_writer.specs.Slots.{other_slot}
use Rattle.snapshot_writer.specs.Storing.{HasStored, IsStored}
use Rattle.plant_model.specs.Plant.{PlantDefinition}
use Rattle.plant_image.specs.Contents.{contents_of}
use Rattle.plant_image.specs.Standing.{Leads, StandsFor}
use Rattle.plant_core.specs.Events.{IsTaken}
use Rattle.plant_core.specs.Invariant.{AreOnTheWay, FitsTogether, IsAtRest, IsCopy}
use Rattle.plant_core.specs.Snapshots.{with_written}
use Rattle.plant_core.specs.View.{View, fired_number, with_stored}
use Rattle.plant_core.proofs.Copies.{held-within, way-acked}
use Rattle.plant_core.proofs.Stored.{IsDue, IsNewer, Matches, still-matches, stored-stops}

module _ (plant : PlantDefinition) (v : View) (bodies : List (List ℕ)) (kept : FitsTogether plant v bodies) (saved : SavedFields) (taken : IsTaken v saved) where
  copy : IsCopy plant v.saved (fired_number v) saved
  copy = kept.snapshots.copies saved.atom saved taken.kept

  pub atom-within : saved.atom < length plant.atoms
  atom-within = omega (arith, held-within v.kept saved.atom saved taken.kept, kept.snapshots.places)

  pub taken-newer : IsNewer v saved
  taken-newer = record { acked = taken.behind; newer = copy.newer }

  -- all that the state includes is acknowledged, so it is on the way over the records on the device
  pub taken-due : (cells : List Cell) → Leads plant (contents_of (length plant.atoms) cells) v.acked v.acked_counts v.number → AreOnTheWay plant v cells → IsDue plant (other_slot saved.atom cells) saved cells
  taken-due cells leads ways = record {
    within = atom-within;
    other = refl;
    passes = copy.of_atom;
    way = λ a at. way-acked plant v bodies kept (contents_of (length plant.atoms) cells) leads a saved at taken.behind (ways saved.atom saved a taken.kept at);
    early = omega (arith, copy.last, kept.short, leads.last);
  }

module _ (plant : PlantDefinition) (digest : List ℕ) (v : View) (bodies : List (List ℕ)) (kept : FitsTogether plant v bodies) (saved : SavedFields) (taken : IsTaken v saved) (j : Ring) (old : DiskState) where
  abbrev slot : ℕ
  slot = other_slot saved.atom (seen_cells (BODY + 1) old)

  -- what a stop leaves stands for what is acknowledged
  pub taken-stops : IsAtRest plant digest j v.acked v.acked_counts v.number v.saved old → AreOnTheWay plant v (seen_cells (BODY + 1) old) → (new : DiskState) → Leaves (BODY + 1) (HasStored slot saved (seen_cells (BODY + 1) old)) old new
      → Leaves (BODY + 1) (λ cells. StandsFor plant digest (size_of old) cells v.acked v.number) old new
  taken-stops rest ways new left = stored-stops plant digest v.acked v.acked_counts v.number old new (record { sound = rest.sound; leads = rest.leads }) slot saved (taken-due plant v bodies kept saved taken (seen_cells (BODY + 1) old) rest.leads ways) left

  -- what the plant knows once it is stored is so
  pub taken-matches : (slots : List (Option ℕ)) → Matches plant digest (size_of old) j bodies v slots (seen_cells (BODY + 1) old) → (new : DiskState) → IsStored slot saved old new
      → Matches plant digest (size_of old) j bodies (with_stored saved v) (with_written saved.atom slot slots) (seen_cells (BODY + 1) new)
  taken-matches slots were new done =
      still-matches plant digest (size_of old) j bodies v slots (seen_cells (BODY + 1) old) were slot saved (taken-due plant v bodies kept saved taken (seen_cells (BODY + 1) old) were.stands.leads were.ways) (taken-newer plant v bodies kept saved taken)
      (seen_cells (BODY + 1) new) (record { count = done.count; here = inr (inr done.here); others = done.others }) done.here
