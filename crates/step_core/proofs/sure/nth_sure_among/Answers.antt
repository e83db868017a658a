use Rattle.std.proofs.Common.{◌≡◌, ◌∙◌, ap, sym, subst}
use Rattle.std.specs.Prelude.{slice_get}
use Rattle.std.specs.FinSet.{contains}
use Rattle.plant_model.specs.Choice.{is_possible_at}
use Rattle.plant_model.specs.Chosen.{choice_of}
use Rattle.plant_model.specs.System.{interactions_in, plant_of}
use Rattle.plant_model.proofs.Membership.{entry-in}
use Rattle.plant_model.proofs.RulesKept.{well_formed}
use Rattle.step_core.specs.ChoicesIn.{choices_in}
use Rattle.step_core.specs.EnabledTransitions.{AreOffered}
use Rattle.step_core.specs.Parts.{shown_in}
use Rattle.step_core.specs.Sure.{is_sure_at, sure_among, sure_choices}
use Rattle.step_core.proofs.Openness.{sure-possible}
use Rattle.step_core.proofs.sure.nth_sure_among.Goals as goal

pub choose-requires-clause-offering : goal.choose-requires-clause-offering
choose-requires-clause-offering c =
    let system = c.args.system.now in
    let plant = plant_of system in
    let parts = c.args.parts.now in
    let all = interactions_in system in
    let j = c.args.judgement.now.judgement in
    let judged = c.requires.judged in
    let shown = c.shown.ensures.states in
    record {
      offers = record {
        offered = subst (λ ss. AreOffered plant.atoms ss j.offers.sets) (sym shown) judged.offered;
        counted = judged.counted;
        leaves = judged.leaves;
      };
      kept = λ n yes_.
          ap (λ ss. is_possible_at plant.atoms plant.wires ss all n) shown ∙
          sure-possible plant (well_formed system.atoms.items) parts all n (sym (judged.sure n) ∙ yes_);
    }

pub returns-clause-entry : goal.returns-clause-entry
returns-clause-entry c =
    let system = c.args.system.now in
    let plant = plant_of system in
    let parts = c.args.parts.now in
    let all = interactions_in system in
    let kept = c.args.judgement.now.judgement.kept in
    let same : contains kept ≡ is_sure_at plant parts all = λ i n. c.requires.judged.sure n i in
    let list : choices_in plant.atoms c.shown.result.now all (contains kept) ≡ sure_choices plant parts =
    ap (λ states. choices_in plant.atoms states all (contains kept)) c.shown.ensures.states ∙
    ap (choices_in plant.atoms (shown_in parts) all) same ∙ ap (sure_among plant parts) system.listed in
    sym (ap (λ cs. slice_get cs c.args.place) list) ∙ c.choose.ensures

pub returns-clause-sure : goal.returns-clause-sure
returns-clause-sure c =
    entry-in (sure_choices (plant_of c.args.system.now) c.args.parts.now) c.args.place (choice_of c.choose.new.choice) (returns-clause-entry c)
