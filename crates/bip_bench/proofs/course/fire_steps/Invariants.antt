use Rattle.std.proofs.Common.{◌≡◌}
use Rattle.step_core.specs.Running.{plant_in}
use Rattle.bip_bench.proofs.course.fire_steps.Given as goal

abbrev pub invariant-loop-fired : goal.invariant-loop-fired
invariant-loop-fired l = plant_in l.run ≡ plant_in l.fn.run
