use Rattle.std.proofs.Common.{◌≡◌}
use Rattle.plant_model.specs.Fitting.{IsOf}
use Rattle.plant_model.specs.System.{plant_of}
use Rattle.host_tests.proofs.tests.replay.is_one_run.Given as goal

-- there is a state for each atom
abbrev pub invariant-loop-fire : goal.invariant-loop-fire
invariant-loop-fire g l = IsOf (plant_of l.system) l.states
