-- What a run is watched for, as the words of the command line say it.
use Rattle.std.specs.Prelude.{◌≡◌, ◌≢◌, ℕ, ◌+◌, Bool, true, false, List, [], ◌∷◌, map, slice_get, position, Option, None, Some, Result, Ok, Err}
use Rattle.std.specs.Option.{option_map_or}
use Rattle.plant_model.specs.Plant.{PlantDefinition}
use Rattle.petri_atom.specs.Local.{Local}
use Rattle.run_text.specs.Watched.{Held}
use Rattle.run_text.specs.declared.watching.Reached.{Reached}
use Rattle.run_watches.specs.Watches.{WatchTree, holds_in, watch_in}
use Rattle.run_watches.specs.declared.fault.WatchFault.{WatchFault}
use Rattle.command_line.specs.declared.request.WatchKind.{WatchKind}
use Rattle.command_line.specs.declared.request.WatchKind.TheVariants.{Never, Until}
use Rattle.command_line.specs.declared.request.WatchWords.{WatchWords}
use Rattle.plant_tasks.specs.declared.ending.PlantEnding.{PlantEnding}
use Rattle.plant_tasks.specs.declared.ending.PlantEnding.TheVariants.{BadWatch, Memory}

-- what the words say, each of which is a watch of a plant or is not
abbrev pub watches_in : PlantDefinition → List WatchWords → List (Result WatchTree WatchFault)
watches_in plant words = map (λ one. watch_in plant one.text.now) words

-- a watch holds in a state, if it is one
abbrev pub holds_if : PlantDefinition → List Local → Result WatchTree WatchFault → Bool
holds_if plant states (Ok watch) = holds_in plant states watch
holds_if plant states (Err fault) = false

-- the place of the first of these that holds in a state
abbrev pub held_of : List (Result WatchTree WatchFault) → Held
held_of watches plant states = position (holds_if plant states) watches

-- the place of the first of the words that holds in a state of a plant that runs
abbrev pub held_in : PlantDefinition → List WatchWords → Held
held_in plant words = held_of (watches_in plant words)

-- how a task ends at a watch with this place, if it is none, and later on
abbrev pub bad_or : ℕ → Result WatchTree WatchFault → Option PlantEnding → Option PlantEnding
bad_or place (Ok watch) later = later
bad_or place (Err fault) later = Some (BadWatch place fault)

-- how it ends at the first of these that is none, if the first has this place
abbrev pub bad_from : ℕ → List (Result WatchTree WatchFault) → Option PlantEnding
bad_from place [] = None
bad_from place (watch ∷ more) = bad_or place watch (bad_from (place + 1) more)

-- how a task ends at the first of the words that is no watch of a plant, if one is none
abbrev pub first_bad : PlantDefinition → List WatchWords → Option PlantEnding
first_bad plant words = bad_from 0 (watches_in plant words)

-- the ending tells the first of the words that is no watch, unless memory is wanting
abbrev pub IsFirstBad : PlantDefinition → List WatchWords → PlantEnding → Type 0
IsFirstBad plant words ending = ending ≢ Memory → first_bad plant words ≡ Some ending

-- the ending tells that the text with this place is no watch, unless memory is wanting
abbrev pub IsBadAt : PlantDefinition → ℕ → List ℕ → PlantEnding → Type 0
IsBadAt plant place text ending = ending ≢ Memory → bad_or place (watch_in plant text) None ≡ Some ending

-- what is of this kind must not hold
abbrev pub is_never : WatchKind → Bool
is_never Never = true
is_never Until = false

-- what stands at the place must not hold
abbrev pub is_never_at : List WatchWords → ℕ → Bool
is_never_at words place = option_map_or (λ one. is_never one.kind) (slice_get words place) false

-- a run has ended by what must not hold
abbrev pub is_held : List WatchWords → Option Reached → Bool
is_held words None = false
is_held words (Some reached) = is_never_at words reached.watch
