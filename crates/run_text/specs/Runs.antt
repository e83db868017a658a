-- The run that picks choose.
use Rattle.std.specs.Prelude.{ℕ, ◌+◌, List, [], ◌∷◌, Option, Some, None, map}
use Rattle.petri_atom.specs.Local.{Local}
use Rattle.plant_model.specs.Plant.{PlantDefinition}
use Rattle.plant_model.specs.Choice.{ChoiceDefinition}
use Rattle.plant_model.specs.Runs.{fold}
use Rattle.plant_model.specs.Step.{initial_states, next}
use Rattle.run_text.specs.Alone.{alone}
use Rattle.run_text.specs.Picks.{PickDefinition}
use Rattle.run_text.specs.Taken.{by_taken, taken_as}
use Rattle.run_text.specs.declared.fault.Refusal.{Refusal}

-- the choices that picks take from a state on, the first of them with this number; after a state with no choice, and after a pick that is refused, none
abbrev pub chosen : PlantDefinition → List Local → ℕ → List PickDefinition → List ChoiceDefinition
chosen plant states number [] = []
chosen plant states number (pick ∷ picks) =
    by_taken (taken_as plant states number pick.take) (λ c. c ∷ chosen plant (next plant states (alone c)) (number + 1) picks) [] (λ why. [])

-- the first pick that is refused, if one is
abbrev pub refusal_in : PlantDefinition → List Local → ℕ → List PickDefinition → Option Refusal
refusal_in plant states number [] = None
refusal_in plant states number (pick ∷ picks) =
    by_taken (taken_as plant states number pick.take) (λ c. refusal_in plant (next plant states (alone c)) (number + 1) picks) None
    (λ why. Some (record { place = pick.place; why = why }))

-- the state after the choices that picks take from a state on
abbrev pub state_after : PlantDefinition → List Local → List PickDefinition → List Local
state_after plant states picks = fold plant states (map alone (chosen plant states 1 picks))

-- the first pick that is refused in the run of a plant from its first states on
abbrev pub refusal_of : PlantDefinition → List PickDefinition → Option Refusal
refusal_of plant picks = refusal_in plant (initial_states plant) 1 picks
