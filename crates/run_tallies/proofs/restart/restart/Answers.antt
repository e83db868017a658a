use Rattle.std.proofs.Common.{◌≡◌, ◌≤◌, ◌+◌, ◌∙◌, ap, arith, length, map, set, subst, sym, take}
use Rattle.std.proofs.lemmas.List.{length-map}
use Rattle.std.proofs.lemmas.Option.{get_or_from_slice_get}
use Rattle.petri_atom.specs.Atom.{definition_of}
use Rattle.petri_atom.specs.Definition.{Fits, initial}
use Rattle.petri_atom.specs.Local.{Local}
use Rattle.plant_model.specs.Plant.{PlantDefinition}
use Rattle.step_core.specs.Running.{plant_in, states_in}
use Rattle.run_tallies.proofs.Restarting.{all-first, defined-at, more-first}
use Rattle.run_tallies.proofs.restart.restart.Goals as goal

pub set-requires-clause-there : goal.set-requires-clause-there
set-requires-clause-there c =
    let plant = plant_in c.loop-number.run in
    let known : map definition_of c.atoms-atom-items.result.now ≡ plant.atoms =
    c.atoms-atom-items.ensures ∙ ap (λ (p : PlantDefinition). p.atoms) (c.system-system.ensures.plant ∙ sym c.loop-number.invariant.plant) in
    let at = defined-at c.atoms-atom-items.result.now plant.atoms c.loop-number.number c.atom-item.result (omega arith) c.atom-item.is known in
    let many : length (states_in c.loop-number.run) ≡ length plant.atoms = c.loop-number.run.of_plant in
    omega (arith, at.1, many)

pub set-requires-clause-fits : goal.set-requires-clause-fits
set-requires-clause-fits c = λ a is.
    let plant = plant_in c.loop-number.run in
    let atom = c.atom-item.result in
    let known : map definition_of c.atoms-atom-items.result.now ≡ plant.atoms =
    c.atoms-atom-items.ensures ∙ ap (λ (p : PlantDefinition). p.atoms) (c.system-system.ensures.plant ∙ sym c.loop-number.invariant.plant) in
    let at = defined-at c.atoms-atom-items.result.now plant.atoms c.loop-number.number atom (omega arith) c.atom-item.is known in
    subst (λ d. Fits d c.initial.result) (at.0 ∙ get_or_from_slice_get plant.atoms c.loop-number.number a (definition_of atom) is) c.initial.ensures.fits

pub loop-number-preserved : goal.loop-number-preserved
loop-number-preserved c =
    let plant = plant_in c.args.run.now in
    let run = c.loop-number.run in
    let i = c.loop-number.number in
    let atom = c.atom-item.result in
    let known : map definition_of c.atoms-atom-items.result.now ≡ plant.atoms =
    c.atoms-atom-items.ensures ∙ ap (λ (p : PlantDefinition). p.atoms) c.system-system.ensures.plant in
    let at = defined-at c.atoms-atom-items.result.now plant.atoms i atom (omega arith) c.atom-item.is known in
    let many : length (states_in run) ≡ length plant.atoms = run.of_plant ∙ ap (λ (p : PlantDefinition). length p.atoms) c.loop-number.invariant.plant in
    let set_is : states_in c.set.new.self ≡ set (states_in run) i (initial (definition_of atom)) = c.set.ensures.states ∙ ap (λ (s : Local). set (states_in run) i s) c.initial.ensures.initial in
    record {
      plant = c.set.ensures.plant ∙ c.loop-number.invariant.plant;
      first = ap (take (i + 1)) set_is ∙ more-first plant.atoms (states_in run) i (definition_of atom) at.1 many at.0 c.loop-number.invariant.first;
    }

pub returns-clause-first : goal.returns-clause-first
returns-clause-first c =
    let plant = plant_in c.args.run.now in
    let run = c.loop-number.run in
    let many : length (states_in run) ≡ length plant.atoms = run.of_plant ∙ ap (λ (p : PlantDefinition). length p.atoms) c.loop-number.invariant.plant in
    let known : map definition_of c.atoms-atom-items.result.now ≡ plant.atoms =
    c.atoms-atom-items.ensures ∙ ap (λ (p : PlantDefinition). p.atoms) c.system-system.ensures.plant in
    let as_many : length c.atoms-atom-items.result.now ≡ length plant.atoms = sym (length-map c.atoms-atom-items.result.now definition_of) ∙ ap length known in
    let past : length plant.atoms ≤ c.loop-number.number = omega (arith, c.loop-number-test.false, as_many) in
    all-first plant.atoms (states_in run) c.loop-number.number past many c.loop-number.invariant.first
