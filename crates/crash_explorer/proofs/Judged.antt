-- When what a device reads is right, by what was read of it.
use Rattle.std.proofs.Common.{◌≡◌, ◌≢◌, ◌↔◌, ℕ, ◌+◌, ◌≤◌, Bool, IsTrue, List, ◌++◌, length, take, Option, None, Some, refl, sym, ◌∙◌}
use Rattle.disk_model.specs.Cells.{Cell}
use Rattle.plant_image.specs.Contents.{contents_of, last_number, states_of}
use Rattle.plant_image.specs.Faults.{fault_of}
use Rattle.plant_image.specs.Reading.{IsFault}
use Rattle.plant_image.specs.declared.fault.ImageFault.{ImageFault}
use Rattle.plant_image.specs.declared.fault.ImageFault.TheVariants.{NotFormatted, OtherVersion, OtherSystem, WrongSize, Damaged, Gap, NotEnabled, Memory}
use Rattle.plant_model.specs.Firing.{FiringDefinition}
use Rattle.plant_model.specs.Plant.{PlantDefinition}
use Rattle.petri_atom.specs.Local.{Local}
use Rattle.crash_explorer.specs.Judging.{IsRight, state_after}

module _ (plant : PlantDefinition) (digest : List ℕ) (bytes : ℕ) (acked tail : List FiringDefinition) (cells : List Cell) where
  -- these are the states after all of the acknowledged firings and a front of the tail, and the number of these firings
  abbrev pub AreIncluded : List Local → ℕ → Type 0
  AreIncluded states number = (k : ℕ) × (k ≤ length tail) × (states ≡ state_after plant (acked ++ take k tail)) × (number ≡ length acked + k)

  -- cells with which nothing is wrong are right exactly where the states and the number that they hold are
  pub judged : (right : Bool) (states : List Local) (number : ℕ) → fault_of plant digest bytes cells ≡ None → states ≡ states_of plant (contents_of (length plant.atoms) cells) → number ≡ last_number (contents_of (length plant.atoms) cells)
      → IsTrue right ↔ AreIncluded states number → IsTrue right ↔ IsRight plant digest bytes acked tail cells
  judged right states number sound are last where_behind = (
    λ yes. let w = where_behind.0 yes in (w.0, w.1, record { sound = sound; states_are = sym are ∙ w.2; number_is = sym last ∙ w.3 }),
    λ is. where_behind.1 (is.0, is.1, are ∙ is.2.states_are, last ∙ is.2.number_is),
  )

  -- and cells with which something is wrong are not
  pub wrong-not-right : (fault : ImageFault) → fault_of plant digest bytes cells ≡ Some fault → IsRight plant digest bytes acked tail cells → ⊥
  wrong-not-right fault wrong is = let none = is.2.sound in cc (wrong, none)

-- what is said to be wrong is wrong, want of memory aside
pub wrong-of-fault : (found : Option ImageFault) (fault : ImageFault) → fault ≢ Memory → IsFault found fault → found ≡ Some fault
wrong-of-fault found Memory other told = absurd (other refl)
wrong-of-fault found NotFormatted other told = told
wrong-of-fault found OtherVersion other told = told
wrong-of-fault found OtherSystem other told = told
wrong-of-fault found WrongSize other told = told
wrong-of-fault found (Damaged k) other told = told
wrong-of-fault found (Gap atom) other told = told
wrong-of-fault found (NotEnabled number atom) other told = told
