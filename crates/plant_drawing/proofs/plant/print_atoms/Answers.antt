use Rattle.std.proofs.Common.{◌≡◌, ◌∙◌, ap, map, arith}
use Rattle.petri_atom.specs.Atom.{definition_of}
use Rattle.plant_model.specs.Plant.{PlantDefinition}
use Rattle.step_core.specs.Running.{plant_in, states_in}
use Rattle.plant_drawing.specs.Drawing.{drawn_atom}
use Rattle.plant_drawing.proofs.Listing.{leads-known}
use Rattle.plant_drawing.proofs.plant.print_atoms.Goals as goal

pub loop-number-preserved : goal.loop-number-preserved
loop-number-preserved g c =
    let plant = plant_in c.args.run.now in
    let known : map definition_of c.atoms-atom-items.result.now ≡ plant.atoms = c.atoms-atom-items.ensures ∙ ap (λ (p : PlantDefinition). p.atoms) c.system-system.ensures.plant in
    leads-known definition_of (drawn_atom c.args.interior c.args.drawn (states_in c.args.run.now)) c.atoms-atom-items.result.now plant.atoms c.loop-number.number c.atom-item.result
    (g.W.Write.contents c.args.output.now) (g.W.Write.contents c.loop-number.output) (g.W.Write.contents c.print_drawn_atom.new.output) _
    known (omega arith) c.atom-item.is c.loop-number.invariant c.in_ok-print_drawn_atom.ensures
