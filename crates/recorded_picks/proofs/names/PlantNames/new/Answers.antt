use Rattle.std.proofs.Common.{◌≡◌, sym, ◌∙◌, subst}
use Rattle.petri_atom.specs.Atom.{definition_of}
use Rattle.petri_atom.specs.Definition.{AtomDefinition}
use Rattle.plant_model.specs.Plant.{WireDefinition}
use Rattle.plant_model.specs.System.{plant_of}
use Rattle.plant_model.specs.Wire.{wire_of}
use Rattle.recorded_picks.specs.Names.{AreApart, atom_names, connector_names}
use Rattle.recorded_picks.proofs.Apart.{atoms-apart, connectors-apart, names-kept}
use Rattle.recorded_picks.proofs.names.PlantNames.new.Goals as goal

pub index_of_wires-requires : goal.index_of_wires-requires
index_of_wires-requires c =
    let plant = plant_of c.args.system.now in
    subst AreApart (sym (names-kept (λ (w : WireDefinition). w.name) wire_of c.wires.result.now plant.wires c.wires.ensures)) (connectors-apart plant c.keeps_its_rules.ensures.plant)

pub index_of_atoms-requires : goal.index_of_atoms-requires
index_of_atoms-requires c =
    let plant = plant_of c.args.system.now in
    subst AreApart (sym (names-kept (λ (a : AtomDefinition). a.name) definition_of c.atoms.result.now plant.atoms c.atoms.ensures)) (atoms-apart plant c.keeps_its_rules.ensures.plant)

pub invariant_of-result : goal.invariant_of-result
invariant_of-result c =
    let plant = plant_of c.args.system.now in
    let valid = c.keeps_its_rules.ensures.plant in
    let connectors : c.in_ok-connectors.connectors ≡ connector_names plant = c.in_ok-connectors.ensures ∙ names-kept (λ (w : WireDefinition). w.name) wire_of c.wires.result.now plant.wires c.wires.ensures in
    let atoms : c.in_ok-atoms.atoms ≡ atom_names plant = c.in_ok-atoms.ensures ∙ names-kept (λ (a : AtomDefinition). a.name) definition_of c.atoms.result.now plant.atoms c.atoms.ensures in
    record {
      valid = valid;
      connectors_named = connectors;
      atoms_named = atoms;
    }
