-- The sure choices stand in the order of the choices of a state.
use Rattle.std.proofs.Common.{List, AllPairs}
use Rattle.std.specs.Prelude.{Option}
use Rattle.petri_atom.specs.Local.{Local}
use Rattle.plant_model.specs.Choice.{plant_interactions}
use Rattle.plant_model.specs.Laws.{IsBefore}
use Rattle.plant_model.specs.Plant.{PlantDefinition}
use Rattle.plant_model.proofs.InOrder.{kept-rise}
use Rattle.step_core.specs.Parts.{shown_in}
use Rattle.step_core.specs.Sure.{is_sure_at, sure_choices}

-- each sure choice is before each later one
pub sure-rise : (plant : PlantDefinition) (parts : List (Option Local)) → AllPairs IsBefore (sure_choices plant parts)
sure-rise plant parts = kept-rise plant (shown_in parts) (is_sure_at plant parts (plant_interactions plant))
