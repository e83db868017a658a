use Rattle.std.proofs.Common.{◌∙◌, ap, sym, map}
use Rattle.std.specs.Prelude.{None}
use Rattle.std.specs.Option.{option_map_or}
use Rattle.petri_atom.specs.Expression.{tree_of}
use Rattle.connector_tree.specs.Tree as connectors
use Rattle.plant_model.specs.Plant.{WireDefinition}
use Rattle.plant_model.specs.Wire.{wire_of}
use Rattle.blocked_text.specs.Asked.{plant_asked}
use Rattle.blocked_text.specs.Reason.{first_zero}
use Rattle.blocked_text.proofs.Entries.{made-at, made-past}
use Rattle.blocked_text.proofs.reasons.Reasons.zero_of.Goals as goal

pub returns-in-Some : goal.returns-in-Some
returns-in-Some c =
    let plant = plant_asked c.args.self.now in
    let states = c.args.states.now in
    let i = c.args.interaction.now in
    let wire = c.in-Some.wire.now in
    let leaves = connectors.leaves (connectors.tree_of wire.connector) in
    let found = c.in-Some.ensures.lookup in
    c.first_zero.ensures ∙
    ap (λ atoms. first_zero atoms states leaves i.mask (map tree_of c.deref.result.now)) c.atoms.ensures ∙
    ap (λ guards. first_zero plant.atoms states leaves i.mask (map tree_of guards)) c.deref.ensures.value ∙
    sym (ap (λ o. option_map_or (λ (w : WireDefinition). first_zero plant.atoms states (connectors.leaves w.connector) i.mask w.guards) o None)
    (made-at wire_of c.wires.result.now plant.wires c.wires.ensures c.from.result i.connector c.from.ensures wire found.3.0 found.1))

pub returns-in-None : goal.returns-in-None
returns-in-None c =
    let plant = plant_asked c.args.self.now in
    let i = c.args.interaction.now in
    sym (ap (λ o. option_map_or (λ (w : WireDefinition). first_zero plant.atoms c.args.states.now (connectors.leaves w.connector) i.mask w.guards) o None)
    (made-past wire_of c.wires.result.now plant.wires c.wires.ensures c.from.result i.connector c.from.ensures c.in-None.ensures.lookup.3))
