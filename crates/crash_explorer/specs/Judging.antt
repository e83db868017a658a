-- When a device is right.
use Rattle.std.specs.Prelude.{◌≡◌, ◌⊎◌, ℕ, ◌+◌, ◌≤◌, Bool, true, List, ◌++◌, Some, length, take}
use Rattle.petri_atom.specs.Local.{Local}
use Rattle.disk_model.specs.Cells.{Cell}
use Rattle.disk_model.specs.DiskState.{IsUnchanged}
use Rattle.disk_model.specs.MemDisk.{AsksNoChange, fuse_of, state_of}
use Rattle.disk_model.specs.declared.fuse.Fuse.TheVariants.{Off}
use Rattle.disk_model.specs.declared.memory.MemDisk.{MemDisk}
use Rattle.plant_model.specs.Firing.{FiringDefinition}
use Rattle.plant_model.specs.Plant.{PlantDefinition}
use Rattle.plant_model.specs.Runs.{IsRun, fold}
use Rattle.plant_model.specs.Step.{initial_states}
use Rattle.plant_image.specs.Faults.{fault_of}
use Rattle.plant_image.specs.Standing.{StandsFor}
use Rattle.plant_image.specs.declared.fault.ImageFault.TheVariants.{NotFormatted}

-- the state that firings lead to from the first state of the plant
abbrev pub state_after : PlantDefinition → List FiringDefinition → List Local
state_after plant cs = fold plant (initial_states plant) cs

-- the firings are a run of the plant from its first state
abbrev pub IsRunOf : PlantDefinition → List FiringDefinition → Type 0
IsRunOf plant cs = IsRun plant (initial_states plant) cs (state_after plant cs)

-- Cells of a device of so many bytes are right where these firings were acknowledged and those came after them: they stand for the state after
-- all that was acknowledged and some front of the others, and for the number of all of these.
abbrev pub IsRight : PlantDefinition → List ℕ → ℕ → List FiringDefinition → List FiringDefinition → List Cell → Type 0
IsRight plant digest bytes acked tail cells =
    (k : ℕ) × (k ≤ length tail) × StandsFor plant digest bytes cells (state_after plant (acked ++ take k tail)) (length acked + k)

-- The same of cells that a stop left: while the device was formatted it may also be one that was never formatted.
abbrev pub IsRightStop : PlantDefinition → List ℕ → ℕ → List FiringDefinition → List FiringDefinition → Bool → List Cell → Type 0
IsRightStop plant digest bytes acked tail formatting cells =
    IsRight plant digest bytes acked tail cells ⊎ ((formatting ≡ true) × (fault_of plant digest bytes cells ≡ Some NotFormatted))

-- Nothing of a device in memory was changed, and its fuse is off.
pub record IsKept (old new : MemDisk) : Type 0 where
  pub same : IsUnchanged (state_of old) (state_of new)
  pub rest : AsksNoChange old new
  pub failures : (state_of new).failures ≡ (state_of old).failures
  pub unfused : fuse_of new ≡ Off
