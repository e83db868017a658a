use Rattle.std.proofs.Common.{◌∙◌, sym, ap, map}
use Rattle.std.specs.Prelude.{option_map}
use Rattle.std.proofs.lemmas.List.{take-map}
use Rattle.petri_atom.specs.Atom.{definition_of}
use Rattle.plant_model.specs.Rules.{fault_of_wire}
use Rattle.plant_model.specs.Wire.{wire_of}
use Rattle.plant_model.specs.declared.fault.SystemFault.TheVariants.{BadWire}
use Rattle.plant_model.proofs.wire_rules.wire_fault.Goals as goal

pub returns-in-Some : goal.returns-in-Some
returns-in-Some c =
    let n = c.args.number in
    let told = ap (λ ws. fault_of_wire (map definition_of c.args.atoms.now) ws (wire_of c.args.wire.now)) (take-map wire_of n c.args.wires.now) in
    sym (ap (option_map (BadWire n)) (told ∙ sym c.fault_of_wire.ensures ∙ c.in-Some.is))

pub returns-in-None : goal.returns-in-None
returns-in-None c =
    let n = c.args.number in
    let told = ap (λ ws. fault_of_wire (map definition_of c.args.atoms.now) ws (wire_of c.args.wire.now)) (take-map wire_of n c.args.wires.now) in
    sym (ap (option_map (BadWire n)) (told ∙ sym c.fault_of_wire.ensures ∙ c.in-None.is))
