-- The choices at places, fired one after another.
use Rattle.std.specs.Prelude.{◌≡◌, ℕ, List, [], ◌∷◌, length, slice_get, map}
use Rattle.std.specs.Option.{option_map_or}
use Rattle.petri_atom.specs.Local.{Local}
use Rattle.plant_model.specs.Plant.{PlantDefinition}
use Rattle.plant_model.specs.Choice.{ChoiceDefinition, choices}
use Rattle.plant_model.specs.Runs.{fold}
use Rattle.plant_model.specs.Step.{initial_states, next}
use Rattle.run_text.specs.Alone.{alone}

-- the choices at places, fired one after another from a state on: each is the entry at its place among the choices of the state before it; a place without an entry ends them
abbrev pub choices_fired : PlantDefinition → List Local → List ℕ → List ChoiceDefinition
choices_fired plant states [] = []
choices_fired plant states (place ∷ places) =
    option_map_or (λ c. c ∷ choices_fired plant (next plant states (alone c)) places) (slice_get (choices plant states) place) []

-- each place has an entry where it is fired, from the first state on
abbrev pub IsThere : PlantDefinition → List ℕ → Type 0
IsThere plant places = length (choices_fired plant (initial_states plant) places) ≡ length places

-- the state after them
abbrev pub states_after : PlantDefinition → List ℕ → List Local
states_after plant places = fold plant (initial_states plant) (map alone (choices_fired plant (initial_states plant) places))
