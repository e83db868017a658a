use Rattle.std.proofs.Common.{◌∙◌, ap, sym, subst, length}
use Rattle.std.specs.Prelude.{Some}
use Rattle.petri_atom.specs.Local.{has}
use Rattle.plant_model.specs.Chosen.{choice_of, firing_of}
use Rattle.plant_model.specs.Firing.{choice_in}
use Rattle.plant_model.specs.Step.{transfer}
use Rattle.plant_model.specs.System.{plant_of}
use Rattle.plant_model.proofs.RulesKept.{well_formed}
use Rattle.step_core.specs.Dispatching.{AllPresentFit, ArePartsKept}
use Rattle.step_core.specs.Parts.{parts_of, shown_in}
use Rattle.step_core.specs.Sure.{IsSure, went_on}
use Rattle.step_core.proofs.FiringOfParts.{fired-fit, fired-kept}
use Rattle.step_core.proofs.PartsKept.{length-parts, shows}
use Rattle.step_core.proofs.SureAllowed.{goes-on, sure-allowed}
use Rattle.step_core.proofs.parts.PlantParts.fire.Goals as goal

pub fire-requires-clause-of_plant : goal.fire-requires-clause-of_plant
fire-requires-clause-of_plant c =
    sym (length-parts (has c.self.inside.away) 0 c.self.inside.states) ∙ ap length c.self.view_is ∙ c.requires.of_plant

pub fire-requires-clause-allowed : goal.fire-requires-clause-allowed
fire-requires-clause-allowed c =
    let plant = plant_of c.args.system.now in
    let choice = choice_of c.args.choice.now in
    sure-allowed plant c.self.inside.states (has c.self.inside.away) choice (subst (λ parts. IsSure plant parts choice) (sym c.self.view_is) c.requires.sure)

pub invariant_of-self : goal.invariant_of-self
invariant_of-self c =
    let plant = plant_of c.args.system.now in
    let firing = firing_of c.args.choice.now c.args.inputs.now in
    subst (ArePartsKept c.self.inside.away) (sym c.fire.ensures.next) (fired-kept plant c.self.inside.away c.self.inside.states c.self.invariant firing (subst (λ parts. IsSure plant parts (choice_in firing)) (sym c.self.view_is) c.requires.sure))

pub returns-clause-parts : goal.returns-clause-parts
returns-clause-parts c =
    let plant = plant_of c.args.system.now in
    let firing = firing_of c.args.choice.now c.args.inputs.now in
    ap (parts_of (has c.self.inside.away)) c.fire.ensures.next ∙
    sym (goes-on plant c.self.inside.states (has c.self.inside.away) firing (subst (λ parts. IsSure plant parts (choice_in firing)) (sym c.self.view_is) c.requires.sure)) ∙
    ap (λ parts. went_on plant parts firing) c.self.view_is

pub returns-clause-fits : goal.returns-clause-fits
returns-clause-fits c fit =
    let plant = plant_of c.args.system.now in
    let firing = firing_of c.args.choice.now c.args.inputs.now in
    let kept = fired-fit plant c.self.inside.away c.self.inside.states c.self.invariant firing (subst (λ parts. IsSure plant parts (choice_in firing)) (sym c.self.view_is) c.requires.sure)
    (well_formed c.args.system.now.atoms.items) (subst (AllPresentFit plant) (sym c.self.view_is) fit) in
    subst (AllPresentFit plant) (ap (parts_of (has c.self.inside.away)) (sym c.fire.ensures.next)) kept

pub returns-clause-delivered : goal.returns-clause-delivered
returns-clause-delivered c place m there =
    let plant = plant_of c.args.system.now in
    let firing = firing_of c.args.choice.now c.args.inputs.now in
    c.fire.ensures.delivered place m there ∙
    ap (λ states. Some (transfer plant states firing m.atom)) (sym (shows c.self.inside.away c.self.inside.states c.self.invariant) ∙ ap shown_in c.self.view_is)
