use Rattle.std.proofs.Common.{◌≡◌, ◌*◌}
use Rattle.std.specs.Prelude.{slice_get}
use Rattle.std.specs.FinSet.{contains}
use Rattle.plant_model.specs.System.{interactions_in, plant_of}
use Rattle.step_core.specs.ChoicesIn.{choices_in_from}
use Rattle.step_core.specs.Weights.{choices_of_connector, is_kept_of}
use Rattle.step_core.proofs.weights.Weighing.found.Given as goal

-- the choice stands among those of the connector's interactions from the next word on
abbrev pub invariant-loop-at : goal.invariant-loop-at
invariant-loop-at l =
    let atoms = (plant_of l.self.system.now).atoms in
    let all = interactions_in l.self.system.now in
    slice_get (choices_of_connector atoms l.self.states.now all (contains l.self.kept.now) l.connector) l.place ≡
    slice_get (choices_in_from atoms l.self.states.now all (is_kept_of all (contains l.self.kept.now) l.connector) (64 * l.at)) l.left
