-- The life of a plant: periods one after another, each of which begins with the cells that the one before left.
use Rattle.std.specs.Prelude.{◌≡◌, ℕ, ◌-◌, false, List, [], ◌∷◌, None, length, map, replicate, take}
use Rattle.std.specs.List.{flat_map}
use Rattle.disk_model.specs.Cells.{Cell}
use Rattle.plant_model.specs.Firing.{FiringDefinition}
use Rattle.plant_model.specs.Plant.{PlantDefinition}
use Rattle.plant_image.specs.Contents.{contents_of, counts_of, last_number, states_of}
use Rattle.plant_core.specs.Events.{IsEventRun, all_fired}
use Rattle.plant_core.specs.Marks.{marks_of}
use Rattle.plant_core.specs.Snapshots.{known_of}
use Rattle.plant_core.specs.Stops.{StandsForFront, number_held}
use Rattle.plant_core.specs.View.{View}
use Rattle.plant_core.specs.declared.events.Happened.{Happened}
use Rattle.recovery.specs.Booting.{IsBooted}

-- A period: the view of the plant that was booted, what happened to it, its view then, and the cells that a stop left.
pub record Period : Type 0 where
  pub opened : View
  pub happened : List Happened
  pub closed : View
  pub left : List Cell

-- The plant was booted from these cells of a device of so many bytes, this happened to it, and then a stop left cells that stand for the state after a
-- front of what was not acknowledged.
pub record IsPeriod (plant : PlantDefinition) (digest : List ℕ) (bytes : ℕ) (cells : List Cell) (s : Period) : Type 0 where
  pub booted : IsBooted plant digest bytes cells s.opened
  pub run : IsEventRun plant s.opened s.happened s.closed
  pub stopped : StandsForFront plant digest bytes s.closed s.left

-- Periods one after another, from the cells with which the first begins to those that the last one left.
abbrev pub IsLifetime : PlantDefinition → List ℕ → ℕ → List Cell → List Period → List Cell → Type 0
IsLifetime plant digest bytes cells [] last = last ≡ cells
IsLifetime plant digest bytes cells (s ∷ rest) last = IsPeriod plant digest bytes cells s × IsLifetime plant digest bytes s.left rest last

-- what a period fired and its stop left: as many firings as the number of the last record has grown by
abbrev pub kept_in : PlantDefinition → Period → List FiringDefinition
kept_in plant s = take (number_held plant s.left - s.opened.number) (all_fired s.happened)

-- that of all periods, in their order
abbrev pub all_kept : PlantDefinition → List Period → List FiringDefinition
all_kept plant periods = flat_map (kept_in plant) periods

-- what a period fired and acknowledged: nothing was there to acknowledge at its beginning
abbrev pub acked_in : Period → List FiringDefinition
acked_in s = take (s.closed.number - s.opened.number) (all_fired s.happened)

-- What the stop of each period left begins with all that the period acknowledged.
abbrev pub HoldAcknowledged : PlantDefinition → List Period → Type 0
HoldAcknowledged plant [] = Unit {0}
HoldAcknowledged plant (s ∷ rest) = (take (length (acked_in s)) (kept_in plant s) ≡ acked_in s) × HoldAcknowledged plant rest

-- the view of a plant that is booted from these cells
abbrev pub opening : PlantDefinition → List Cell → View
opening plant cells = record {
  acked = states_of plant (contents_of (length plant.atoms) cells);
  acked_counts = counts_of plant (contents_of (length plant.atoms) cells);
  number = last_number (contents_of (length plant.atoms) cells);
  tail = [];
  present = states_of plant (contents_of (length plant.atoms) cells);
  counts = counts_of plant (contents_of (length plant.atoms) cells);
  base = (contents_of (length plant.atoms) cells).base;
  ring = (contents_of (length plant.atoms) cells).ring;
  marks = marks_of (contents_of (length plant.atoms) cells).records;
  saved = map known_of (contents_of (length plant.atoms) cells).slots;
  kept = replicate (length plant.atoms) None;
  away = replicate (length plant.atoms) None;
  broken = false;
}

-- the period of a boot that a stop cut short, if it left these cells
abbrev pub cut_short : PlantDefinition → List Cell → List Cell → Period
cut_short plant cells left = record { opened = opening plant cells; happened = []; closed = opening plant cells; left = left }
