use Rattle.std.proofs.Common.{◌∙◌, ap, sym}
use Rattle.std.specs.Prelude.{Some, option_map}
use Rattle.step_core.proofs.Presence.{known-part}
use Rattle.step_core.proofs.dispatcher.Dispatcher.state.Goals as goal

pub returns-in-Some-clause-fits : goal.returns-in-Some-clause-fits
returns-in-Some-clause-fits c a s its_atom is =
    let told = sym c.state.ensures ∙ ap (option_map (λ s. s.now)) c.in-Some.is ∙ ap Some (sym c.copy.ensures) ∙ is in
    c.args.self.now.fits c.args.atom a s its_atom (known-part c.args.self.now.parts c.args.atom s told)
