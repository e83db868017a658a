-- What is loaded of a device, and what that makes of the device.
use Rattle.std.specs.Prelude.{◌≡◌, ℕ, ◌+◌, Bool, true, false, List, length, take}
use Rattle.disk_model.specs.Cells.{Cell, Leaves, MayBe, seen_cells}
use Rattle.disk_model.specs.DiskState.{Counts, CountsUpTo, DiskState, IsSettled, size_of}
use Rattle.disk_model.specs.declared.cells.TheConstants.{BODY}
use Rattle.record_codec.specs.Ring.{device_cells}
use Rattle.record_codec.specs.declared.layout.TheConstants.{MOST_RING}
use Rattle.plant_model.specs.Plant.{PlantDefinition}
use Rattle.recovery.specs.declared.loading.Loaded.{Loaded}

-- It was loaded of a device of so many bytes: of the cells that a read gives as many as any device for the plant has, if the device keeps the disk
-- model.
pub record WasLoadedOf (plant : PlantDefinition) (told : ℕ) (keeps : Bool) (given : List Cell) (loaded : Loaded) : Type 0 where
  pub bytes : loaded.bytes ≡ told
  pub cells : keeps ≡ true → loaded.cells.items ≡ take (device_cells (length plant.atoms) MOST_RING) given

-- the same of what a device holds now
abbrev pub WasLoaded : PlantDefinition → DiskState → Loaded → Type 0
WasLoaded plant s loaded = WasLoadedOf plant (size_of s) s.keeps (seen_cells (BODY + 1) s) loaded

-- A device was synced, and nothing was written: a read gives the same, a stop up to its end leaves what it left at the start, and a stop then what a read
-- gives.
pub record IsSynced (old new : DiskState) : Type 0 where
  pub counts : Counts false true old new
  pub leaves : old.keeps ≡ true → Leaves (BODY + 1) (MayBe (BODY + 1) old) old new
  pub same : old.keeps ≡ true → seen_cells (BODY + 1) new ≡ seen_cells (BODY + 1) old
  pub settled : old.keeps ≡ true → IsSettled new.now

-- The same if the sync or a read may have failed, but for what a stop leaves then.
pub record IsSyncedInPart (failed : Bool) (old new : DiskState) : Type 0 where
  pub counts : CountsUpTo failed 1 old new
  pub leaves : old.keeps ≡ true → Leaves (BODY + 1) (MayBe (BODY + 1) old) old new
  pub same : old.keeps ≡ true → seen_cells (BODY + 1) new ≡ seen_cells (BODY + 1) old
