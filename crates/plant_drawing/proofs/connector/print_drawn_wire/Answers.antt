use Rattle.std.proofs.Common.{◌≡◌, ◌∙◌, [], ap, subst, map, cond, OnOk}
use Rattle.std.specs.Io.KnownBytes.{Appends}
use Rattle.petri_atom.specs.Atom.{definition_of}
use Rattle.plant_model.specs.Plant.{PlantDefinition}
use Rattle.plant_model.specs.Wire.{wire_of}
use Rattle.step_core.specs.Running.{plant_in, states_in}
use Rattle.plant_drawing.specs.Connector.{connector_lines}
use Rattle.plant_drawing.specs.Drawn.{is_coloured}
use Rattle.plant_drawing.proofs.connector.print_drawn_wire.Goals as goal

pub returns : goal.returns
returns g c =
    let plant = plant_in c.args.run.now in
    let coloured = is_coloured c.args.filling plant (states_in c.args.run.now) c.args.number in
    let wire = wire_of c.args.wire.now in
    let start = g.W.Write.contents c.args.output.now in
    let after = g.W.Write.contents c.print_wire.new.output in
    let known : map definition_of c.atoms-atoms.result.now ≡ plant.atoms = c.atoms-atoms.ensures ∙ ap (λ (p : PlantDefinition). p.atoms) c.system.ensures.plant in
    let printed : OnOk c.print_wire.result (Appends start after (connector_lines plant.atoms c.args.drawn coloured c.args.number wire)) =
    subst (λ atoms. OnOk c.print_wire.result (Appends start after (connector_lines atoms c.args.drawn coloured c.args.number wire))) known
    (subst (λ b. OnOk c.print_wire.result (Appends start after (connector_lines (map definition_of c.atoms-atoms.result.now) c.args.drawn b c.args.number wire))) c.is_coloured-coloured.ensures c.print_wire.ensures) in
    subst (λ b. OnOk c.print_wire.result (Appends start after (cond b (connector_lines plant.atoms c.args.drawn coloured c.args.number wire) []))) c.if-not-is_drawn.ensures printed
