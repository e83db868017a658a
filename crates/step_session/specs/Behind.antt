-- A session that begins behind picks.
use Rattle.std.specs.Prelude.{◌≡◌, ℕ, ◌+◌, List, [], ◌∷◌, Option, Some, None}
use Rattle.std.specs.List.{position_or_len}
use Rattle.petri_atom.specs.Local.{Local}
use Rattle.plant_model.specs.Plant.{PlantDefinition}
use Rattle.plant_model.specs.Choice.{ChoiceDefinition, choices}
use Rattle.plant_model.specs.Step.{initial_states, next}
use Rattle.run_text.specs.Alone.{alone}
use Rattle.run_text.specs.Picks.{PickDefinition}
use Rattle.run_text.specs.Runs.{chosen, refusal_in}
use Rattle.run_text.specs.Taken.{is_same_choice}
use Rattle.step_session.specs.Session.{SessionDefinition, first_session}

-- the place of a choice among choices: that of the first which is the same
abbrev pub place_among : List ChoiceDefinition → ChoiceDefinition → ℕ
place_among cs c = position_or_len (is_same_choice c) cs

-- the places of choices that are fired one after another, from a state on: each among the choices of the state before it
abbrev pub places_of : PlantDefinition → List Local → List ChoiceDefinition → List ℕ
places_of plant states [] = []
places_of plant states (c ∷ cs) = place_among (choices plant states) c ∷ places_of plant (next plant states (alone c)) cs

-- the session behind picks: the choices that they take from the first states on are fired, and the generator begins with its seed
abbrev pub session_behind : PlantDefinition → List PickDefinition → SessionDefinition
session_behind plant picks =
    record { fired = places_of plant (initial_states plant) (chosen plant (initial_states plant) 1 picks); random = first_session.random }

-- The choice that the next of known picks takes in a state, if it takes one: it is the first that they choose, and the picks that are left choose the others, and refuse what they
-- refuse. Where none is taken, they choose none, and refuse none.
abbrev pub TakesNext : PlantDefinition → List Local → ℕ → Option (List PickDefinition) → Option ChoiceDefinition → Option (List PickDefinition) → Type 0
TakesNext plant states number None took left = Unit {0}
TakesNext plant states number (Some picks) None left = (chosen plant states number picks ≡ []) × (refusal_in plant states number picks ≡ None)
TakesNext plant states number (Some picks) (Some c) None = ⊥
TakesNext plant states number (Some picks) (Some c) (Some rest) =
    (chosen plant states number picks ≡ c ∷ chosen plant (next plant states (alone c)) (number + 1) rest) ×
    (refusal_in plant states number picks ≡ refusal_in plant (next plant states (alone c)) (number + 1) rest)
