use Rattle.std.proofs.Common.{◌∙◌, ap, sym}
use Rattle.std.specs.Prelude.{Some}
use Rattle.step_core.proofs.stepper.Stepper.state.Goals as goal

pub returns-clause-fits : goal.returns-clause-fits
returns-clause-fits c a known =
    c.args.self.now.fits c.args.atom a c.copy.result known (c.state.ensures ∙ ap Some (sym c.copy.ensures))
