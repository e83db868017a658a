-- What an inspection reads of a device, and by which plant it names atoms.
use Rattle.std.specs.Prelude.{ℕ, ◌+◌, ◌≤◌, true, if◌then◌else◌, List, Option, None, Some, length, map, take}
use Rattle.std.specs.Option.{option_map_or}
use Rattle.disk_model.specs.Cells.{Cell, seen_cells}
use Rattle.disk_model.specs.DiskState.{DiskState}
use Rattle.disk_model.specs.declared.cells.TheConstants.{BODY}
use Rattle.record_codec.specs.Identity.{IdentityFields}
use Rattle.record_codec.specs.Ring.{device_cells}
use Rattle.record_codec.specs.declared.layout.TheConstants.{LAST_NUMBER, MOST_ATOMS, MOST_RING}
use Rattle.plant_model.specs.System.{plant_of, digest_of}
use Rattle.plant_model.specs.declared.system.System.{System}
use Rattle.plant_image.specs.Contents.{Contents}
use Rattle.plant_image.specs.Faults.{is_for}
use Rattle.plant_image.specs.declared.standing.Held.{Held}
use Rattle.plant_core.specs.Marks.{marks_of}
use Rattle.plant_core.specs.Snapshots.{known_of}
use Rattle.trimmer.specs.Covered.{MarkFields}
use Rattle.trimmer.specs.declared.saved.SavedAt.{SavedAt}

-- how many cells an image has at most
abbrev pub most_cells : ℕ
most_cells = device_cells MOST_ATOMS MOST_RING

-- the cells that are read of a device: none past those that an image has at most
abbrev pub inspected_cells : DiskState → List Cell
inspected_cells s = take most_cells (seen_cells (BODY + 1) s)

-- how many atoms the plant of a text has; none without a text
abbrev pub atoms_in : Option System → ℕ
atoms_in plant = option_map_or (λ system. length (plant_of system).atoms) plant 0

-- how many atoms an image has slots for: what it says itself, and else as many as the plant has
abbrev pub atoms_told : Option System → Option IdentityFields → ℕ
atoms_told plant identity = option_map_or (λ (i : IdentityFields). i.atoms) identity (atoms_in plant)

-- the image was formatted for the system, or does not say for which
abbrev pub names_for : System → Option IdentityFields → Option System
names_for system identity = if option_map_or (is_for (length (plant_of system).atoms) (digest_of system)) identity true then Some system else None

-- the plant by which atoms are named: the given one, if the image was formatted for it or does not say for which
abbrev pub names_told : Option System → Option IdentityFields → Option System
names_told None identity = None
names_told (Some system) identity = names_for system identity

-- what is told of the newest saved states, and of the live records
abbrev pub saved_in_contents : Contents → List SavedAt
saved_in_contents c = map known_of c.slots

abbrev pub marks_in_contents : Contents → List MarkFields
marks_in_contents c = marks_of c.records

-- The numbers of what was read are in their ranges.
pub record IsWithin (held : Held) : Type 0 where
  pub ring : held.ring ≤ MOST_RING
  pub base : 1 ≤ held.base
  pub live : length held.records.items ≤ held.ring
  pub last : held.base + length held.records.items ≤ LAST_NUMBER + 1
