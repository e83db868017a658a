use Rattle.std.proofs.Common.{◌∙◌, ap, sym, length, arith}
use Rattle.petri_atom.specs.Local.{has}
use Rattle.step_core.specs.Parts.{shown_in}
use Rattle.step_core.proofs.PartsKept.{length-parts, shows}
use Rattle.step_core.proofs.parts.PlantParts.shown.Goals as goal

pub returns-clause-states : goal.returns-clause-states
returns-clause-states c =
    sym (shows c.self.inside.away c.self.inside.states c.self.invariant) ∙ ap shown_in c.self.view_is

pub returns-clause-few : goal.returns-clause-few
returns-clause-few c = omega (arith, ap length c.self.view_is, length-parts (has c.self.inside.away) 0 c.self.inside.states, c.self.invariant.few)
