-- What a session keeps, and where its plant stands.
use Rattle.std.specs.Prelude.{ℕ, List, []}
use Rattle.petri_atom.specs.Local.{Local}
use Rattle.plant_model.specs.Plant.{PlantDefinition}
use Rattle.plant_model.specs.Choice.{ChoiceDefinition}
use Rattle.plant_model.specs.Step.{initial_states}
use Rattle.run_text.specs.Picks.{seeded}
use Rattle.step_session.specs.Fired.{choices_fired, states_after}
use Rattle.step_session.specs.declared.session.TheConstants.{SEED}

-- the places of the choices that were fired, in order, and the state of the generator of random picks
pub record SessionDefinition : Type 0 where
  pub fired : List ℕ
  pub random : ℕ

-- nothing is fired yet, and the generator begins with the seed 1
abbrev pub first_session : SessionDefinition
first_session = record { fired = []; random = seeded SEED }

-- the choices that were fired
abbrev pub fired_in : PlantDefinition → SessionDefinition → List ChoiceDefinition
fired_in plant session = choices_fired plant (initial_states plant) session.fired

-- the state in which the plant stands: the one after them
abbrev pub states_at : PlantDefinition → SessionDefinition → List Local
states_at plant session = states_after plant session.fired
