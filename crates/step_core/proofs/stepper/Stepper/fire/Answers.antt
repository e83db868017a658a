use Rattle.step_core.proofs.stepper.Stepper.fire.Goals as goal

pub invariant_of-self : goal.invariant_of-self
invariant_of-self c = record {
  of_plant = c.step.ensures.of_plant;
  fits = c.step.ensures.fits c.args.self.now.fits;
  judged = c.step.ensures.judged;
}
