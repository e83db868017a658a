-- The place that is sought is between the two ends, which come closer.
use Rattle.std.proofs.Common.{◌-◌}
use Rattle.plant_model.specs.Choice.{choices}
use Rattle.step_core.specs.Running.{plant_in, states_in}
use Rattle.plant_drawing.specs.Place.{IsBetween}
use Rattle.plant_drawing.proofs.choice.first_from.Given as goal

abbrev pub invariant-loop-low : goal.invariant-loop-low
invariant-loop-low l = IsBetween (choices (plant_in l.run) (states_in l.run)) l.connector l.low l.high

abbrev pub decreases-loop-low : goal.decreases-loop-low
decreases-loop-low l = l.high - l.low
