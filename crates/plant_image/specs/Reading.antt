-- What reading an image answers.
use Rattle.std.specs.Prelude.{◌≡◌, ℕ, ◌+◌, ◌≤◌, ◌++◌, true, List, [], ◌∷◌, Option, None, Some, Result, Ok, Err, length, slice_get, slice_index_or}
use Rattle.petri_atom.specs.Definition.{AtomDefinition}
use Rattle.plant_model.specs.Fitting.{IsOf, AllFit}
use Rattle.plant_model.specs.Plant.{PlantDefinition}
use Rattle.disk_model.specs.Cells.{Cell}
use Rattle.record_codec.specs.Fired.{FiredFields}
use Rattle.record_codec.specs.declared.layout.TheConstants.{LAST_NUMBER, LEAST_RING}
use Rattle.gated_journal.specs.Rings.{IsReadFor, IsRing}
use Rattle.record_replay.specs.Records.{count_of}
use Rattle.plant_image.specs.Contents.{Contents, contents_of, counts_of, ring_held, ring_in, states_of, unsaved}
use Rattle.plant_image.specs.Faults.{is_of_atom}
use Rattle.plant_image.specs.declared.fault.ImageFault.{ImageFault}
use Rattle.plant_image.specs.declared.fault.ImageFault.TheVariants.{Memory}
use Rattle.plant_image.specs.declared.standing.Held.{Held}
use Rattle.plant_image.specs.declared.standing.Standing.{Standing}

-- a fault is found if this is what is wrong; that memory ran out says nothing of what is wrong
abbrev pub IsFault : Option ImageFault → ImageFault → Type 0
IsFault found Memory = Unit {0}
IsFault found fault = found ≡ Some fault

-- A part of the reading answers by what is wrong with its part of the image: a value that has P if nothing is, and else the fault.
abbrev pub Tells : {V : Type 0} → Option ImageFault → (V → Type 0) → Result V ImageFault → Type 0
Tells found P (Ok value) = (found ≡ None) × P value
Tells found P (Err fault) = IsFault found fault

-- records with one more behind them, where there is one
abbrev pub added : List FiredFields → Option FiredFields → List FiredFields
added records None = records
added records (Some fired) = records ++ fired ∷ []

-- what was read, as contents
abbrev pub contents_in : Held → Contents
contents_in held = record { ring = held.ring; base_cell = held.base_cell; base = held.base; slots = held.slots.items; records = held.records.items }

-- The numbers that the cells hold are in their ranges, and the cells read for the journal of these.
pub record IsInRange (atoms : ℕ) (cells : List Cell) : Type 0 where
  pub ring_from : LEAST_RING ≤ ring_held cells
  pub ring : IsRing (ring_in atoms (contents_of atoms cells))
  pub read : IsReadFor (ring_in atoms (contents_of atoms cells)) cells

-- What was read is what the cells hold.
pub record IsHeld (atoms : ℕ) (cells : List Cell) (held : Held) : Type 0 where
  pub contents : contents_in held ≡ contents_of atoms cells
  pub in_range : IsInRange atoms cells

-- Contents are sound if there is a saved state of each atom that is one of its atom, and the numbers are in their ranges.
pub record IsSound (plant : PlantDefinition) (c : Contents) : Type 0 where
  pub as_many : length c.slots ≡ length plant.atoms
  pub of_atoms : (n : ℕ) (a : AtomDefinition) → slice_get plant.atoms n ≡ Some a → is_of_atom n a (slice_index_or c.slots n (unsaved n)) ≡ true
  pub base : 1 ≤ c.base
  pub last : c.base + length c.records ≤ LAST_NUMBER + 1

-- What stands is what was read, and where that leads: a state of the plant, and how often each atom has taken part in it.
pub record IsLed (plant : PlantDefinition) (c : Contents) (standing : Standing) : Type 0 where
  pub contents : contents_in standing.held ≡ c
  pub states : standing.states ≡ states_of plant c
  pub of_plant : IsOf plant standing.states
  pub fits : AllFit plant standing.states
  pub counts : (atom : ℕ) → count_of standing.counts atom ≡ count_of (counts_of plant c) atom

-- What stands is what the cells hold, and where that leads.
pub record IsStanding (plant : PlantDefinition) (cells : List Cell) (standing : Standing) : Type 0 where
  pub led : IsLed plant (contents_of (length plant.atoms) cells) standing
  pub in_range : IsInRange (length plant.atoms) cells
