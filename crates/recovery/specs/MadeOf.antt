-- What a plant is made of that was read of a device.
use Rattle.std.specs.Prelude.{◌≡◌, ℕ, ◌+◌, ◌≤◌, List, None, length, replicate, vec_capacity}
use Rattle.disk_model.specs.DiskState.{DiskState, size_of}
use Rattle.disk_model.specs.Cells.{seen_cells}
use Rattle.disk_model.specs.declared.cells.TheConstants.{BODY}
use Rattle.plant_model.specs.Plant.{PlantDefinition}
use Rattle.plant_model.specs.System.{plant_of}
use Rattle.plant_model.specs.declared.system.System.{System}
use Rattle.plant_image.specs.Contents.{ring_in}
use Rattle.plant_image.specs.Reading.{contents_in}
use Rattle.plant_image.specs.declared.standing.Standing.{Standing}
use Rattle.plant_core.specs.Marks.{marks_of}
use Rattle.plant_core.specs.Parts.{IsEmptyTail, MakeAPlant}
use Rattle.plant_core.specs.Snapshots.{nothing_kept}
use Rattle.plant_core.specs.declared.making.Parts.{Parts}
use Rattle.step_executor.specs.Executing.{committed_in, jobs_in, states_in, system_in}
use Rattle.recovery.specs.Judged.{WasReadOf}

-- What stands was read of what the device holds.
abbrev pub WasRead : PlantDefinition → List ℕ → DiskState → Standing → Type 0
WasRead plant digest s standing = WasReadOf plant digest (size_of s) s.keeps (seen_cells (BODY + 1) s) standing

-- The parts are what stands: the state, which is committed, with no atom away, the counts, the journal of the live records with their marks, and what is known of the states in
-- the slots, of which none was asked for; and room for a tail and for the marks of a full ring.
pub record IsMadeOf (system : System) (standing : Standing) (parts : Parts) : Type 0 where
  pub of_system : system_in parts.executor ≡ system
  pub states : states_in parts.executor ≡ standing.states
  pub acked : committed_in parts.executor ≡ standing.states
  pub none_away : jobs_in parts.executor ≡ replicate (length (plant_of system).atoms) None
  pub counts : parts.counts ≡ standing.counts
  pub journal : parts.journal ≡ ring_in (length (plant_of system).atoms) (contents_in standing.held)
  pub marks : parts.marks.items ≡ marks_of (contents_in standing.held).records
  pub room_of_marks : parts.journal.ring ≤ vec_capacity parts.marks
  pub snapshots : parts.snapshots ≡ nothing_kept (contents_in standing.held).slots
  pub room : IsEmptyTail parts

-- The parts and the device make a plant of this system.
pub record IsPreparedFor (system : System) (new : DiskState) (parts : Parts) : Type 0 where
  pub of_system : system_in parts.executor ≡ system
  pub plant : MakeAPlant parts new
