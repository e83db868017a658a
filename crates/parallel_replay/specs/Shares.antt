-- What several workers replay: each its share of the atoms.
use Rattle.std.specs.Prelude.{◌≡◌, ℕ, ◌%◌, ◌<◌, List, Option, Some, None, Result, Ok, Err, length, slice_get, slice_index_or}
use Rattle.std.specs.declared.alloc.AllocError.{AllocError}
use Rattle.petri_atom.specs.Definition.{AtomDefinition, Fits}
use Rattle.plant_model.specs.Plant.{PlantDefinition}
use Rattle.plant_image.specs.Contents.{Contents, replayed}
use Rattle.plant_image.specs.Faults.{fault_of_replay}
use Rattle.plant_image.specs.Reading.{IsFault}
use Rattle.plant_image.specs.declared.fault.ImageFault.{ImageFault}
use Rattle.plant_image.specs.declared.replaying.Reached.{Reached}
use Rattle.parallel_replay.specs.declared.share.Share.{Share}

-- What was found of an atom is what its replay gives: the place where the records bring it, or why they bring it nowhere.
abbrev pub IsFoundOf : Contents → ℕ → AtomDefinition → Result Reached ImageFault → Type 0
IsFoundOf c n a (Ok reached) = (replayed c n a ≡ Ok (record { state = reached.state; count = reached.count })) × Fits a reached.state
IsFoundOf c n a (Err fault) = IsFault (fault_of_replay n (replayed c n a)) fault

-- the place of an atom has what was found of it
abbrev pub IsPlaced : Contents → ℕ → AtomDefinition → Option (Result Reached ImageFault) → Type 0
IsPlaced c n a (Some found) = IsFoundOf c n a found
IsPlaced c n a None = ⊥

-- The share of a worker: a place for each atom of the plant, and what was found of each atom whose number leaves the worker's when it is divided by that
-- of all workers.
pub record IsShareOf (plant : PlantDefinition) (c : Contents) (workers worker : ℕ) (share : Share) : Type 0 where
  pub places : length share.places.items ≡ length plant.atoms
  pub placed : (n : ℕ) (a : AtomDefinition) → slice_get plant.atoms n ≡ Some a → n % workers ≡ worker → IsPlaced c n a (slice_index_or share.places.items n None)

-- it is there, or memory ran out
abbrev pub IsShare : PlantDefinition → Contents → ℕ → ℕ → Result Share AllocError → Type 0
IsShare plant c workers worker (Ok share) = IsShareOf plant c workers worker share
IsShare plant c workers worker (Err error) = Unit {0}

-- the shares of all workers, by the workers' numbers
pub record AreShares (plant : PlantDefinition) (c : Contents) (workers : ℕ) (shares : List (Result Share AllocError)) : Type 0 where
  pub many : length shares ≡ workers
  pub each : (w : ℕ) (d : Result Share AllocError) → w < workers → IsShare plant c workers w (slice_index_or shares w d)
