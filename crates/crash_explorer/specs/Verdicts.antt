-- What the cells of a device come to, and what it boots to.
use Rattle.std.specs.Prelude.{◌≡◌, ◌↔◌, ℕ, ◌+◌, IsTrue, List, None, Some, length}
use Rattle.disk_model.specs.Cells.{Cell, seen_cells}
use Rattle.disk_model.specs.DiskState.{DiskState, size_of}
use Rattle.disk_model.specs.declared.cells.TheConstants.{BODY}
use Rattle.plant_core.specs.Plants.{definition_of, device_of, text_digest, view_of}
use Rattle.plant_core.specs.View.{fired_number}
use Rattle.plant_image.specs.Contents.{contents_of, last_number}
use Rattle.plant_image.specs.Faults.{fault_of}
use Rattle.recovery.specs.Booting.{IsBooted}
use Rattle.plant_model.specs.Firing.{FiringDefinition}
use Rattle.plant_model.specs.Plant.{PlantDefinition}
use Rattle.crash_explorer.specs.Judging.{IsRight}
use Rattle.crash_explorer.specs.declared.booting.Found.{Found}
use Rattle.crash_explorer.specs.declared.booting.Found.TheVariants.{Booted, Refused}
use Rattle.crash_explorer.specs.declared.booting.Opened.{Opened}
use Rattle.crash_explorer.specs.declared.booting.Opened.TheVariants as opened
use Rattle.crash_explorer.specs.declared.judging.Verdict.{Verdict}
use Rattle.crash_explorer.specs.declared.judging.Verdict.TheVariants.{Stands, Faulty}

-- These cells stand for a state and this number, and the answer says whether they are right; or this is wrong with them.
abbrev pub IsVerdict : PlantDefinition → List ℕ → ℕ → List FiringDefinition → List FiringDefinition → List Cell → Verdict → Type 0
IsVerdict plant digest bytes acked tail cells (Stands number right) =
    (fault_of plant digest bytes cells ≡ None) × (number ≡ last_number (contents_of (length plant.atoms) cells))
    × (IsTrue right ↔ IsRight plant digest bytes acked tail cells)
IsVerdict plant digest bytes acked tail cells (Faulty fault) = fault_of plant digest bytes cells ≡ Some fault

-- A device with these cells boots to a plant that has fired as many choices as they hold; or it is refused for what is wrong with them.
abbrev pub IsFound : PlantDefinition → List ℕ → ℕ → List Cell → Found → Type 0
IsFound plant digest bytes cells (Booted fired) =
    (fault_of plant digest bytes cells ≡ None) × (fired ≡ last_number (contents_of (length plant.atoms) cells))
IsFound plant digest bytes cells (Refused fault) = fault_of plant digest bytes cells ≡ Some fault

-- The plant was booted from a device that was in this state, and has its bytes; or the device is refused for what is wrong with its cells.
abbrev pub IsOpened : PlantDefinition → List ℕ → DiskState → Opened → Type 0
IsOpened plant digest s (opened.Plant p) =
    (definition_of p ≡ plant) × (text_digest p ≡ digest) × (size_of (device_of p) ≡ size_of s)
    × IsBooted plant digest (size_of s) (seen_cells (BODY + 1) s) (view_of p)
IsOpened plant digest s (opened.Refused fault) = fault_of plant digest (size_of s) (seen_cells (BODY + 1) s) ≡ Some fault

-- what is found of it, without the plant
abbrev pub found_in : Opened → Found
found_in (opened.Plant p) = Booted (fired_number (view_of p))
found_in (opened.Refused fault) = Refused fault
