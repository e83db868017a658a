use Rattle.std.proofs.Common.{◌≡◌, ◌≢◌, ◌<◌, ℕ}
use Rattle.std.specs.Prelude.{Some, slice_get}
use Rattle.plant_model.specs.Choice.{ChoiceDefinition}
use Rattle.plant_core.specs.Plants.{definition_of, view_of}
use Rattle.plant_core.specs.View.{sure_in}
use Rattle.crossing_control.proofs.moves.first_choice.Given as goal

-- no choice before the place is of the connector
abbrev pub invariant-loop-place : goal.invariant-loop-place
invariant-loop-place g l =
    (place : ℕ) (c : ChoiceDefinition) → place < l.place → slice_get (sure_in (definition_of l.plant) (view_of l.plant)) place ≡ Some c → c.connector ≢ l.connector
