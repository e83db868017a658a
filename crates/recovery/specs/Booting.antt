-- What booting gives, and what it leaves of a device, wherever a stop falls.
use Rattle.std.specs.Prelude.{◌≡◌, ◌⊎◌, ℕ, ◌+◌, Bool, true, false, List, [], Option, None, Result, Ok, Err, length, map, replicate}
use Rattle.petri_atom.specs.Local.{Local}
use Rattle.disk_model.specs.DiskState.{DiskState, size_of}
use Rattle.disk_model.specs.Cells.{Cell, MayBe, seen_cells}
use Rattle.disk_model.specs.declared.cells.TheConstants.{BODY}
use Rattle.record_replay.specs.Records.{count_of}
use Rattle.plant_model.specs.Plant.{PlantDefinition}
use Rattle.gated_journal.specs.Stops.{HasCleaned}
use Rattle.plant_image.specs.Contents.{contents_of, counts_of, last_number, ring_in, states_of}
use Rattle.plant_image.specs.Faults.{fault_of}
use Rattle.plant_image.specs.Reading.{IsFault}
use Rattle.plant_image.specs.Standing.{StandsFor}
use Rattle.plant_image.specs.declared.fault.ImageFault.{ImageFault}
use Rattle.plant_core.specs.Marks.{marks_of}
use Rattle.plant_core.specs.Snapshots.{known_of}
use Rattle.plant_core.specs.View.{View}
use Rattle.recovery.specs.declared.fault.BootFault.{BootFault}
use Rattle.recovery.specs.declared.fault.BootFault.TheVariants.{Image, Disk}

-- the fault is that the device failed
abbrev pub is_disk : BootFault → Bool
is_disk (Image fault) = false
is_disk Disk = true

-- the same of an answer
abbrev pub has_failed : {V : Type 0} → Result V BootFault → Bool
has_failed (Ok value) = false
has_failed (Err fault) = is_disk fault

-- A fault of the image is found if this is what is wrong with it; that the device failed says nothing of what is wrong.
abbrev pub IsBootFault : Option ImageFault → BootFault → Type 0
IsBootFault found (Image fault) = IsFault found fault
IsBootFault found Disk = Unit {0}

-- These cells and those hold the same, and stand for the same state and number.
pub record StandAlike (plant : PlantDefinition) (digest : List ℕ) (bytes : ℕ) (before cells : List Cell) : Type 0 where
  pub states : List Local
  pub number : ℕ
  pub stood : StandsFor plant digest bytes before states number
  pub stand : StandsFor plant digest bytes cells states number
  pub held : contents_of (length plant.atoms) cells ≡ contents_of (length plant.atoms) before

-- Cells that a stop leaves of a device that is booted: some that a stop at its start might have left, or they hold and stand for what a
-- read gave then.
abbrev pub IsBooting : PlantDefinition → List ℕ → DiskState → List Cell → Type 0
IsBooting plant digest old cells = MayBe (BODY + 1) old cells ⊎ StandAlike plant digest (size_of old) (seen_cells (BODY + 1) old) cells

-- The cells of a device from which no plant was booted: as they were, or the record cells that are not live are as they were or empty, and all others as they
-- were.
abbrev pub AreLeft : PlantDefinition → List Cell → List Cell → Type 0
AreLeft plant before cells = (cells ≡ before) ⊎ HasCleaned (ring_in (length plant.atoms) (contents_of (length plant.atoms) before)) before cells

-- The view of a plant that is booted from a device of so many bytes with these cells: nothing is wrong with them, and the plant is where they lead, with
-- nothing to acknowledge. Its marks are those of the live records, what it knows of saved states is what stands in the slots, no state was asked for, and
-- no atom is away.
pub record IsBooted (plant : PlantDefinition) (digest : List ℕ) (bytes : ℕ) (cells : List Cell) (v : View) : Type 0 where
  pub sound : fault_of plant digest bytes cells ≡ None
  pub acked : v.acked ≡ states_of plant (contents_of (length plant.atoms) cells)
  pub number : v.number ≡ last_number (contents_of (length plant.atoms) cells)
  pub acked_counts : (atom : ℕ) → count_of v.acked_counts atom ≡ count_of (counts_of plant (contents_of (length plant.atoms) cells)) atom
  pub tail : v.tail ≡ []
  pub present : v.present ≡ v.acked
  pub counts : v.counts ≡ v.acked_counts
  pub base : v.base ≡ (contents_of (length plant.atoms) cells).base
  pub ring : v.ring ≡ (contents_of (length plant.atoms) cells).ring
  pub marks : v.marks ≡ marks_of (contents_of (length plant.atoms) cells).records
  pub saved : v.saved ≡ map known_of (contents_of (length plant.atoms) cells).slots
  pub kept : v.kept ≡ replicate (length plant.atoms) None
  pub away : v.away ≡ replicate (length plant.atoms) None
  pub broken : v.broken ≡ false
