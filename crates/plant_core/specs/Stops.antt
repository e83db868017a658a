-- What a stop leaves of a durable plant.
use Rattle.std.specs.Prelude.{ℕ, ◌+◌, ◌≤◌, ◌++◌, List, length, take}
use Rattle.disk_model.specs.Cells.{Cell}
use Rattle.plant_model.specs.Firing.{FiringDefinition}
use Rattle.plant_model.specs.Plant.{PlantDefinition}
use Rattle.plant_model.specs.Runs.{fold}
use Rattle.plant_image.specs.Contents.{contents_of, last_number}
use Rattle.plant_image.specs.Standing.{StandsFor}
use Rattle.plant_core.specs.View.{View}

-- these cells of a device of so many bytes stand for the acknowledged state
abbrev pub StandsForAcked : PlantDefinition → List ℕ → ℕ → View → List Cell → Type 0
StandsForAcked plant digest bytes v cells = StandsFor plant digest bytes cells v.acked v.number

-- they stand for the state after some front of these firings, from the acknowledged state on
abbrev pub StandsForFrontOf : PlantDefinition → List ℕ → ℕ → View → List FiringDefinition → List Cell → Type 0
StandsForFrontOf plant digest bytes v firings cells =
    (k : ℕ) × (k ≤ length firings) × StandsFor plant digest bytes cells (fold plant v.acked (take k firings)) (v.number + k)

-- they stand for the state after some front of the tail
abbrev pub StandsForFront : PlantDefinition → List ℕ → ℕ → View → List Cell → Type 0
StandsForFront plant digest bytes v = StandsForFrontOf plant digest bytes v v.tail

-- they stand for the state after some front of what was not acknowledged and what was fired since
abbrev pub StandsForFrontSince : PlantDefinition → List ℕ → ℕ → View → List FiringDefinition → List Cell → Type 0
StandsForFrontSince plant digest bytes v fired = StandsForFrontOf plant digest bytes v (v.tail ++ fired)

-- the number of the last record that these cells hold
abbrev pub number_held : PlantDefinition → List Cell → ℕ
number_held plant cells = last_number (contents_of (length plant.atoms) cells)
