use Rattle.std.proofs.Common.{◌≡◌, ◌≤◌, ◌*◌, map, length, ap, sym, ◌∙◌, arith, le_trans, pow_mono}
use Rattle.std.specs.Prelude.{Some, slice_get}
use Rattle.std.specs.Option.{option_map_or}
use Rattle.std.proofs.lemmas.List.{length-map}
use Rattle.petri_atom.specs.Atom.{definition_of}
use Rattle.plant_model.specs.Choice.{moves_of, combinations, choices_of}
use Rattle.plant_model.specs.Interaction.{interaction_of}
use Rattle.plant_model.proofs.ByConnector.{kept-at}
use Rattle.step_core.proofs.weights.Weighing.ways_of.Goals as goal

-- at most 7 bits for each of 16 ports
pub returns-clause-few : goal.returns-clause-few
returns-clause-few c =
    let bits : 7 * length c.deref.result.now ≤ 112 = omega (arith, c.index.result.now.few, ap length c.deref.ensures.value) in
    le_trans c.long_row_count.ensures.few (pow_mono bits)

pub returns-clause-ways : goal.returns-clause-ways
returns-clause-ways c =
    let system = c.args.self.now.system.now in
    let atoms = map definition_of system.atoms.items in
    let states = c.args.self.now.states.now in
    let item = c.index.result.now in
    let there : slice_get (map interaction_of system.interactions.items) c.args.number ≡ Some (interaction_of item) =
    kept-at system.interactions.items c.args.number item c.requires c.index.ensures in
    c.long_row_count.ensures.count ∙
    ap (λ atoms. length (combinations (map (moves_of (map definition_of atoms) c.judged.result.states.now) c.deref.result.now))) c.judged.ensures.atoms ∙
    ap (λ states. length (combinations (map (moves_of atoms states) c.deref.result.now))) c.judged.ensures.states ∙
    ap (λ ports. length (combinations (map (moves_of atoms states) ports))) c.deref.ensures.value ∙
    sym (ap (λ o. option_map_or (λ i. length (choices_of atoms states i)) o 0) there ∙ length-map (combinations (map (moves_of atoms states) (interaction_of item).ports)) _)
