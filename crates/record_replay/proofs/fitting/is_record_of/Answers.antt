use Rattle.std.proofs.Common.{◌∙◌, None, Some, ap, length, arith, sym}
use Rattle.std.proofs.lemmas.Bool.{ltb-true}
use Rattle.std.proofs.lemmas.List.{length-map}
use Rattle.plant_model.specs.Interaction.{interaction_of}
use Rattle.plant_model.specs.System.{plant_of}
use Rattle.plant_model.specs.Wire.{wire_of}
use Rattle.plant_model.proofs.ByConnector.{lent-count}
use Rattle.record_replay.specs.OfPlant.{is_of_interaction}
use Rattle.record_replay.proofs.NamedInteractions.{few-leaves, of-named, of-no-connector, wire-of-leaves}
use Rattle.record_replay.proofs.fitting.is_record_of.Goals as goal

pub returns-in_default : goal.returns-in_default
returns-in_default c =
    let s = c.args.system.now in
    of-no-connector (plant_of s) s.valid c.args.fired.now
    (omega (
      arith,
      c.in_default.ensures.lookup.3,
      ap length c.deref.ensures.value,
      lent-count (λ list. list.items) s.ports.items s.wires.items s.leaves,
      length-map s.wires.items wire_of,
      c.from.ensures,
      c.connector.ensures.value,
    ))

pub leaves_of-mask-requires : goal.leaves_of-mask-requires
leaves_of-mask-requires c =
    let s = c.args.system.now in
    let r = c.args.fired.now in
    let wire = wire-of-leaves (λ list. list.items) s.ports.items s.wires.items s.leaves c.deref.result.now c.from.result r.connector c.in-Some.leaves.now c.deref.ensures.value (c.from.ensures ∙ c.connector.ensures.value) c.in-Some.ensures.lookup.0 c.in-Some.ensures.lookup.1 in
    few-leaves (plant_of s) s.valid r c.connector.result c.connector.ensures.value wire.0 wire.1 c.deref-2.result.now (c.deref-2.ensures.value ∙ wire.2)

pub find_interaction-requires : goal.find_interaction-requires
find_interaction-requires c =
    let s = c.args.system.now in
    omega (
      arith,
      ltb-true c.from.result (length c.deref.result.now) (sym c.in-Some.ensures.lookup.0),
      ap length c.deref.ensures.value,
      lent-count (λ list. list.items) s.ports.items s.wires.items s.leaves,
      length-map s.wires.items wire_of,
      c.from.ensures,
      c.connector.ensures.value,
      c.connector-2.ensures.value,
    )

pub returns-in-Some-find_interaction : goal.returns-in-Some-find_interaction
returns-in-Some-find_interaction c =
    let s = c.args.system.now in
    let r = c.args.fired.now in
    let i = interaction_of c.in-Some-find_interaction.interaction.now in
    let wire = wire-of-leaves (λ list. list.items) s.ports.items s.wires.items s.leaves c.deref.result.now c.from.result r.connector c.in-Some.leaves.now c.deref.ensures.value (c.from.ensures ∙ c.connector.ensures.value) c.in-Some.ensures.lookup.0 c.in-Some.ensures.lookup.1 in
    c.is_of_interaction.ensures ∙ ap (λ atoms. is_of_interaction atoms r i) c.atoms.ensures ∙
    sym (of-named (plant_of s) s.valid r c.connector-2.result c.connector-2.ensures.value wire.0 wire.1 c.deref-2.result.now (c.deref-2.ensures.value ∙ wire.2) c.atoms_in.result c.leaves_of-mask.result c.atoms_in.ensures c.leaves_of-mask.ensures (Some i) c.in-Some-find_interaction.ensures)

pub returns-in-None : goal.returns-in-None
returns-in-None c =
    let s = c.args.system.now in
    let r = c.args.fired.now in
    let wire = wire-of-leaves (λ list. list.items) s.ports.items s.wires.items s.leaves c.deref.result.now c.from.result r.connector c.in-Some.leaves.now c.deref.ensures.value (c.from.ensures ∙ c.connector.ensures.value) c.in-Some.ensures.lookup.0 c.in-Some.ensures.lookup.1 in
    sym (of-named (plant_of s) s.valid r c.connector-2.result c.connector-2.ensures.value wire.0 wire.1 c.deref-2.result.now (c.deref-2.ensures.value ∙ wire.2) c.atoms_in.result c.leaves_of-mask.result c.atoms_in.ensures c.leaves_of-mask.ensures None c.in-None.ensures)
