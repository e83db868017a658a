use Rattle.std.proofs.Common.{◌≡◌, ◌∙◌, ap, map, arith}
use Rattle.plant_model.specs.Plant.{PlantDefinition}
use Rattle.plant_model.specs.Wire.{wire_of}
use Rattle.step_core.specs.Running.{plant_in, states_in}
use Rattle.plant_drawing.specs.Connector.{drawn_connector}
use Rattle.plant_drawing.specs.Drawn.{is_coloured}
use Rattle.plant_drawing.proofs.Listing.{leads-known}
use Rattle.plant_drawing.proofs.plant.print_wires.Goals as goal

pub loop-number-preserved : goal.loop-number-preserved
loop-number-preserved g c =
    let plant = plant_in c.args.run.now in
    let say = drawn_connector plant.atoms c.args.drawn (is_coloured c.args.filling plant (states_in c.args.run.now)) in
    let known : map wire_of c.wires-wire-items.result.now ≡ plant.wires = c.wires-wire-items.ensures ∙ ap (λ (p : PlantDefinition). p.wires) c.system-system.ensures.plant in
    leads-known wire_of say c.wires-wire-items.result.now plant.wires c.loop-number.number c.wire-item.result
    (g.W.Write.contents c.args.output.now) (g.W.Write.contents c.loop-number.output) (g.W.Write.contents c.print_drawn_wire.new.output) _
    known (omega arith) c.wire-item.is c.loop-number.invariant c.in_ok-print_drawn_wire.ensures
