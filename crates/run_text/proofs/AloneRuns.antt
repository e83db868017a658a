-- Runs to which no value comes in.
use Rattle.std.proofs.Common.{◌≡◌, ap, refl, true, List, [], ◌∷◌, map}
use Rattle.petri_atom.specs.Local.{Local}
use Rattle.plant_model.specs.Choice.{ChoiceDefinition}
use Rattle.plant_model.specs.Firing.{has_its_inputs, may_all_come}
use Rattle.plant_model.specs.Plant.{PlantDefinition}
use Rattle.plant_model.specs.Runs.{IsRun, fold}
use Rattle.plant_model.specs.Step.{next}
use Rattle.run_text.specs.Alone.{AreAllowedInTurn, HasNoInputs, alone}

module _ (plant : PlantDefinition) (none : HasNoInputs plant) where
  -- no value is wanted where no connector has an input
  none-wanted : (c : ChoiceDefinition) → has_its_inputs plant (alone c) ≡ true
  none-wanted c = ap (λ is. may_all_come c.mask is []) (none c.connector)

  -- so choices that are allowed in turn are a run to their fold
  pub allowed-runs : (cs : List ChoiceDefinition) (states : List Local) → AreAllowedInTurn plant states cs → IsRun plant states (map alone cs) (fold plant states (map alone cs))
  allowed-runs [] states all = refl
  allowed-runs (c ∷ cs) states all = ((all.0, none-wanted c), allowed-runs cs (next plant states (alone c)) all.1)
