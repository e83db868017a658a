-- What a plant is made of.
use Rattle.std.specs.Prelude.{◌≡◌, ℕ, ◌+◌, ◌≤◌, true, false, [], None, length, replicate, vec_capacity}
use Rattle.disk_model.specs.DiskState.{DiskState}
use Rattle.disk_model.specs.Cells.{cell_count, seen_cells}
use Rattle.disk_model.specs.declared.cells.TheConstants.{BODY}
use Rattle.gated_journal.specs.Rings.{cells_of_ring}
use Rattle.record_replay.specs.Records.{count_of}
use Rattle.plant_model.specs.System.{digest_of}
use Rattle.plant_image.specs.Contents.{contents_of}
use Rattle.plant_core.specs.Invariant.{IsAtRest}
use Rattle.plant_core.specs.Marks.{marks_of}
use Rattle.plant_core.specs.View.{View, view_by}
use Rattle.plant_core.specs.declared.limits.TheConstants.{MOST_TAIL}
use Rattle.plant_core.specs.declared.making.Parts.{Parts}
use Rattle.step_executor.specs.Executing.{committed_in, jobs_in, plant_in, states_in, system_in}
use Rattle.trimmer.specs.Covered.{saved_count}

-- Room for a tail is there, and nothing in it.
pub record IsEmptyTail (parts : Parts) : Type 0 where
  pub tail : parts.tail.items ≡ []
  pub bodies : parts.bodies.items ≡ []
  pub room_of_tail : MOST_TAIL ≤ vec_capacity parts.tail
  pub room_of_bodies : MOST_TAIL ≤ vec_capacity parts.bodies

-- The parts and the device make a plant: its state is the acknowledged one, no atom is away, no state was asked for, no slot was written yet, all of it has room, and if the
-- device keeps the disk model it is at rest there.
pub record MakeAPlant (parts : Parts) (device : DiskState) : Type 0 where
  pub same : states_in parts.executor ≡ committed_in parts.executor
  pub none_away : jobs_in parts.executor ≡ replicate (length (plant_in parts.executor).atoms) None
  pub counts : (atom : ℕ) → count_of parts.counts atom ≤ parts.journal.last
  pub room : IsEmptyTail parts
  pub atoms : parts.journal.atoms ≡ length (plant_in parts.executor).atoms
  pub inside : cells_of_ring parts.journal ≤ cell_count (BODY + 1) device
  pub marks : parts.journal.base + length parts.marks.items ≡ parts.journal.last + 1
  pub room_of_marks : parts.journal.ring ≤ vec_capacity parts.marks
  pub known : length parts.snapshots.saved ≡ length (plant_in parts.executor).atoms
  pub known_within : (atom : ℕ) → saved_count parts.snapshots.saved atom ≤ count_of parts.counts atom
  pub none_asked : parts.snapshots.kept ≡ replicate (length parts.snapshots.saved) None
  pub none_written : parts.snapshots.next_slots ≡ replicate (length parts.snapshots.saved) None
  pub rests : device.keeps ≡ true
      → IsAtRest (plant_in parts.executor) (digest_of (system_in parts.executor)) parts.journal (committed_in parts.executor) parts.counts parts.journal.last parts.snapshots.saved device
  pub marked : device.keeps ≡ true → parts.marks.items ≡ marks_of (contents_of (length (plant_in parts.executor).atoms) (seen_cells (BODY + 1) device)).records

-- the view of the plant that is made of them
abbrev pub view_in : Parts → View
view_in parts = view_by (committed_in parts.executor) parts.counts parts.journal.last [] (committed_in parts.executor) parts.counts parts.journal parts.marks.items parts.snapshots (jobs_in parts.executor) false
