-- What was judged of the cells of a device.
use Rattle.std.specs.Prelude.{◌≡◌, ℕ, Bool, true, List, None, Result}
use Rattle.disk_model.specs.Cells.{Cell}
use Rattle.plant_model.specs.Plant.{PlantDefinition}
use Rattle.plant_image.specs.Faults.{fault_of}
use Rattle.plant_image.specs.Reading.{IsStanding, Tells}
use Rattle.plant_image.specs.declared.fault.ImageFault.{ImageFault}
use Rattle.plant_image.specs.declared.standing.Standing.{Standing}
use Rattle.recovery.specs.declared.loading.Loaded.{Loaded}

-- This is what was loaded was judged to be: what it stands for, or the first thing that is wrong with it.
abbrev pub IsJudged : PlantDefinition → List ℕ → Loaded → Result Standing ImageFault → Type 0
IsJudged plant digest loaded judged = Tells (fault_of plant digest loaded.bytes loaded.cells.items) (IsStanding plant loaded.cells.items) judged

-- What stands was read of some cells with which nothing is wrong, for a device of so many bytes: of those that a read gives, if the device
-- keeps the disk model.
pub record WasReadOf (plant : PlantDefinition) (digest : List ℕ) (bytes : ℕ) (keeps : Bool) (given : List Cell) (standing : Standing) : Type 0 where
  pub cells : List Cell
  pub seen : keeps ≡ true → cells ≡ given
  pub sound : fault_of plant digest bytes cells ≡ None
  pub is : IsStanding plant cells standing
