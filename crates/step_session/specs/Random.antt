-- Random choices.
use Rattle.std.specs.Prelude.{ℕ, zero, suc, ◌%◌, List, [], ◌∷◌, length, slice_get}
use Rattle.std.specs.Option.{option_map_or}
use Rattle.petri_atom.specs.Local.{Local}
use Rattle.plant_model.specs.Plant.{PlantDefinition}
use Rattle.plant_model.specs.Choice.{choices}
use Rattle.plant_model.specs.Step.{next}
use Rattle.run_text.specs.Alone.{alone}
use Rattle.run_text.specs.Picks.{random_from, shifted}
use Rattle.step_session.specs.Session.{SessionDefinition, states_at}

-- the places that picks take from a state on: each is the pick modulo the number of choices; if nothing is possible the picks that are left take none
abbrev pub places_picked : PlantDefinition → List Local → List ℕ → List ℕ
places_picked plant states [] = []
places_picked plant states (pick ∷ picks) =
    option_map_or (λ c. (pick % length (choices plant states)) ∷ places_picked plant (next plant states (alone c)) picks) (slice_get (choices plant states) (pick % length (choices plant states))) []

-- the state of the generator after so many picks
abbrev pub shifted_by : ℕ → ℕ → ℕ
shifted_by zero state = state
shifted_by (suc n) state = shifted_by n (shifted state)

-- the places that so many random picks of a session take
abbrev pub random_places : PlantDefinition → SessionDefinition → ℕ → List ℕ
random_places plant session count = places_picked plant (states_at plant session) (random_from count session.random)
