use Rattle.std.proofs.Common.{subst}
use Rattle.plant_model.specs.Fitting.{AllFit}
use Rattle.plant_model.specs.System.{plant_of}
use Rattle.step_core.proofs.stepper.Stepper.first.Goals as goal

pub returns-clause-fits : goal.returns-clause-fits
returns-clause-fits c = subst (AllFit (plant_of c.args.system.now)) c.in_ok-states.ensures.first c.in_ok-states.ensures.fits
