use Rattle.std.proofs.Common.{◌≡◌, drop}
use Rattle.petri_atom.specs.StraightCode.{run_in}
use Rattle.petri_atom.proofs.code.Step.run.Given as goal

abbrev pub invariant-loop-step : goal.invariant-loop-step
invariant-loop-step g l = run_in (drop l.step-index l.steps) l.row ≡ run_in l.steps l.fn.row
