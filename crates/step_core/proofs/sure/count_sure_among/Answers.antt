use Rattle.std.proofs.Common.{◌≡◌, ◌∙◌, ap, arith, length}
use Rattle.std.specs.FinSet.{contains}
use Rattle.plant_model.specs.System.{interactions_in, plant_of}
use Rattle.step_core.specs.ChoicesIn.{choices_in}
use Rattle.step_core.specs.Parts.{shown_in}
use Rattle.step_core.specs.Sure.{is_sure_at, sure_among}
use Rattle.step_core.proofs.Weighed.{small-connectors, sum-of-weights}
use Rattle.step_core.proofs.sure.count_sure_among.Goals as goal

pub returns : goal.returns
returns c =
    let system = c.args.system.now in
    let plant = plant_of system in
    let parts = c.args.parts.now in
    let kept = c.args.judgement.now.judgement.kept in
    let same : contains kept ≡ is_sure_at plant parts (interactions_in system) = λ i n. c.requires.sure n i in
    c.requires.weights.sums.total ∙
    sum-of-weights plant.atoms (shown_in parts) (interactions_in system) (contains kept) c.args.judgement.now.judgement.weights.of_connectors (λ n i there. omega (arith, c.requires.weights.sums.many, small-connectors system n i there)) c.requires.weights.each ∙
    ap (λ set. length (choices_in plant.atoms (shown_in parts) (interactions_in system) set)) same ∙
    ap (λ all. length (sure_among plant parts all)) system.listed
