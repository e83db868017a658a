use Rattle.std.proofs.Common.{◌∙◌, sym}
use Rattle.plant_model.specs.Wire.{wire_of}
use Rattle.plant_model.specs.Plant.{WireDefinition}
use Rattle.petri_atom.specs.Name.{is_same_text}
use Rattle.petri_atom.proofs.Positions.{first_of_images}
use Rattle.plant_model.proofs.system.System.connector_named.Goals as goal

pub returns-in-Some : goal.returns-in-Some
returns-in-Some c =
    sym c.in-Some.is
    ∙ first_of_images wire_of (λ (w : WireDefinition). is_same_text w.name c.args.name.now) c.wires.result.now _ c.find_wire.result c.wires.ensures c.find_wire.ensures.first

pub returns-in-None : goal.returns-in-None
returns-in-None c =
    sym c.in-None.is
    ∙ first_of_images wire_of (λ (w : WireDefinition). is_same_text w.name c.args.name.now) c.wires.result.now _ c.find_wire.result c.wires.ensures c.find_wire.ensures.first
