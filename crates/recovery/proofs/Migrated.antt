-- What was read of an old image has room on a new device, and what is written of it there.
use Rattle.std.proofs.Common.{◌≡◌, inl, ℕ, ◌+◌, Bool, false, true, List, length, Option, None, refl, sym, ◌∙◌, ap, subst, arith}
use Rattle.petri_atom.specs.Local.{Local}
use Rattle.disk_model.specs.Cells.{Cell, Leaves, cell, seen_cells}
use Rattle.disk_model.specs.DiskState.{CountsUpTo, DiskState}
use Rattle.disk_model.specs.Moments.{leaves_start}
use Rattle.disk_model.specs.declared.cells.TheConstants.{BODY}
use Rattle.record_codec.specs.Ring.{slot_cell}
use Rattle.record_replay.specs.Records.{count_of}
use Rattle.snapshot_writer.specs.Parcels.{saved_by}
use Rattle.snapshot_writer.specs.Storing.{HoldsSaved}
use Rattle.plant_model.specs.Plant.{PlantDefinition}
use Rattle.plant_model.specs.declared.limits.TheConstants.{MAX_ATOMS}
use Rattle.plant_image.specs.Contents.{Contents, contents_of, counts_of, last_number, states_of}
use Rattle.plant_image.specs.Faults.{fault_of}
use Rattle.plant_image.specs.Reading.{contents_in}
use Rattle.plant_image.specs.Standing.{HasRoom, StandsFor}
use Rattle.plant_image.specs.declared.standing.Standing.{Standing}
use Rattle.recovery.specs.Judged.{WasReadOf}
use Rattle.plant_image.specs.declared.fault.ImageFault.{ImageFault}
use Rattle.plant_image.specs.declared.fault.ImageFault.TheVariants as images
use Rattle.recovery.specs.Migrating.{IsMigrated, IsMigrateFault, is_new_disk, is_old_disk, of_boot, of_writing}
use Rattle.recovery.specs.Writing.{HasWritten, IsWriting}
use Rattle.recovery.specs.declared.fault.BootFault.{BootFault}
use Rattle.recovery.specs.declared.fault.BootFault.TheVariants.{Image, Disk}
use Rattle.recovery.specs.declared.fault.FormatFault.{FormatFault}
use Rattle.recovery.specs.declared.fault.FormatFault.TheVariants as formats
use Rattle.recovery.proofs.Prepared.{counts_within}

-- the same counts are written the same
written_counted : (plant : PlantDefinition) (digest : List ℕ) (ring : ℕ) (states : List Local) (counts others : List ℕ) (number : ℕ) (s : DiskState) → ((atom : ℕ) → count_of counts atom ≡ count_of others atom)
    → HasWritten plant digest ring states counts number s → HasWritten plant digest ring states others number s
written_counted plant digest ring states counts others number s same written = record {
  settled = written.settled;
  cells = record {
    size = written.cells.size;
    count = written.cells.count;
    identity = written.cells.identity;
    base = written.cells.base;
    no_base = written.cells.no_base;
    slots = λ atom state at.
        subst (λ (n : ℕ). HoldsSaved (saved_by atom n number state) (cell (seen_cells (BODY + 1) s) (slot_cell atom 0))) (same atom) (written.cells.slots atom state at);
    no_slots = written.cells.no_slots;
    no_records = written.cells.no_records;
  };
  stands = written.stands;
}

module _ (plant : PlantDefinition) (digest : List ℕ) (bytes : ℕ) (keeps : Bool) (given : List Cell) (standing : Standing) (was : WasReadOf plant digest bytes keeps given standing) where
  abbrev read : Contents
  read = contents_of (length plant.atoms) was.cells

  number_read : last_number (contents_in standing.held) ≡ last_number read
  number_read = ap last_number was.is.led.contents

  -- what stands has room on a device
  pub room_read : length standing.counts ≡ MAX_ATOMS → HasRoom plant standing.states standing.counts (last_number (contents_in standing.held))
  room_read long = record {
    of_plant = was.is.led.of_plant;
    fits = was.is.led.fits;
    counted = let few = was.is.in_range.ring.atoms in omega arith;
    within = λ atom below. omega (arith, counts_within plant digest bytes was.cells standing was.sound was.is atom, number_read);
    number_within = omega (arith, was.is.in_range.ring.last_to, number_read);
  }

  module _ (keeps_model : keeps ≡ true) where
    -- nothing is wrong with the image
    pub sound_read : fault_of plant digest bytes given ≡ None
    sound_read = subst (λ (cells : List Cell). fault_of plant digest bytes cells ≡ None) (was.seen keeps_model) was.sound

    contents_read : read ≡ contents_of (length plant.atoms) given
    contents_read = ap (contents_of (length plant.atoms)) (was.seen keeps_model)

    -- what the image stands for is what was read
    module _ (states : List Local) (number : ℕ) (stood : StandsFor plant digest bytes given states number) where
      pub states_stood : standing.states ≡ states
      states_stood = was.is.led.states ∙ ap (states_of plant) contents_read ∙ stood.states_are

      pub number_stood : last_number (contents_in standing.held) ≡ number
      number_stood = number_read ∙ ap last_number contents_read ∙ stood.number_is

      -- and what a stop leaves of the new device is told of that
      pub stops_read : (new start end made : DiskState) → start ≡ new → made ≡ end → Leaves (BODY + 1) (IsWriting plant digest standing.states (last_number (contents_in standing.held)) start) start end
          → Leaves (BODY + 1) (IsWriting plant digest states number new) new made
      stops_read new start end made begins ends run =
          subst (λ (s : DiskState). Leaves (BODY + 1) (IsWriting plant digest states number s) s made) begins
          (subst (λ (s : DiskState). Leaves (BODY + 1) (IsWriting plant digest states number start) start s) (sym ends)
          (subst (λ (ss : List Local). Leaves (BODY + 1) (IsWriting plant digest ss number start) start end) states_stood
          (subst (λ (n : ℕ). Leaves (BODY + 1) (IsWriting plant digest standing.states n start) start end) number_stood run)))

    -- what is written of it is what the image leads to
    pub migrated_read : (ring : ℕ) (s : DiskState) → HasWritten plant digest ring standing.states standing.counts (last_number (contents_in standing.held)) s → IsMigrated plant digest ring (contents_of (length plant.atoms) given) s
    migrated_read ring s written =
        subst (λ (c : Contents). IsMigrated plant digest ring c s) contents_read
        (subst (λ (n : ℕ). HasWritten plant digest ring (states_of plant read) (counts_of plant read) n s) number_read
        (subst (λ (ss : List Local). HasWritten plant digest ring ss (counts_of plant read) (last_number (contents_in standing.held)) s) was.is.led.states
        (written_counted plant digest ring standing.states standing.counts (counts_of plant read) (last_number (contents_in standing.held)) s was.is.led.counts written)))

-- ---- a new device that is not called

pub uncalled_counts : (most : ℕ) (s : DiskState) → CountsUpTo false most s s
uncalled_counts most s = record { size = refl; keeps = refl; failures = refl; synced = 0; few = omega arith; syncs = refl }

pub uncalled_leaves : (plant : PlantDefinition) (digest : List ℕ) (states : List Local) (number : ℕ) (s : DiskState) → Leaves (BODY + 1) (IsWriting plant digest states number s) s s
uncalled_leaves plant digest states number s = leaves_start (BODY + 1) (IsWriting plant digest states number s) s (λ cells may. inl may)

-- ---- what is told

-- that the new device failed is no fault of the old one, and the other way round
pub old_alone : (fault : BootFault) → is_new_disk (of_boot fault) ≡ false
old_alone (Image images.Memory) = refl
old_alone (Image fault) = refl
old_alone Disk = refl

pub new_alone : (fault : FormatFault) → is_old_disk (of_writing fault) ≡ false
new_alone formats.WrongSize = refl
new_alone formats.Disk = refl
new_alone formats.Memory = refl

-- a fault of the new device is found if nothing is wrong with the old image
pub told_new : (found : Option ImageFault) (fault : FormatFault) → found ≡ None → IsMigrateFault found (of_writing fault)
told_new found formats.WrongSize none = none
told_new found formats.Disk none = none
told_new found formats.Memory none = tt
