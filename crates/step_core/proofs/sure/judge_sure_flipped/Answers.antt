use Rattle.std.proofs.Common.{sym, subst, arith}
use Rattle.plant_model.specs.System.{interactions_in, plant_of}
use Rattle.step_core.specs.EnabledTransitions.{AreMovable, AreMovableBut, AreOffered, AreOfferedBut}
use Rattle.step_core.specs.Parts.{shown_in}
use Rattle.step_core.proofs.Openness.{unmarked-past}
use Rattle.step_core.proofs.SureBehind.{before-of-plant, movable-others, offered-others, seen-others, unsettled}
use Rattle.step_core.proofs.sure.judge_sure_flipped.Goals as goal

pub judge_anew-changes-requires-clause-behind : goal.judge_anew-changes-requires-clause-behind
judge_anew-changes-requires-clause-behind c =
    let plant = plant_of c.args.system.now in
    let all = interactions_in c.args.system.now in
    let parts = c.args.parts.now in
    let flipped = c.args.flipped.now in
    let j = c.args.judgement.now in
    let behind = c.requires.behind in
    let states = sym c.shown.ensures.states in
    record {
      offered_others = subst (λ ss. AreOfferedBut flipped plant.atoms ss j.judgement.offers.sets) states (offered-others plant all c.args.system.now.ranks parts c.requires.of_plant flipped flipped j behind);
      movable_others = subst (λ ss. AreMovableBut flipped plant.atoms ss j.judgement.offers.movable) states (movable-others plant all c.args.system.now.ranks parts c.requires.of_plant flipped flipped j behind);
      before = shown_in behind.before;
      as_many = before-of-plant plant all c.args.system.now.ranks parts c.requires.of_plant flipped flipped j behind;
      offered_before = behind.judged.offered;
    }

pub see_again-is_seen_new-requires-clause-few : goal.see_again-is_seen_new-requires-clause-few
see_again-is_seen_new-requires-clause-few c at past = unmarked-past c.args.parts.now at (omega (arith, past, c.shown.ensures.few))

pub see_again-is_seen_new-requires-clause-others : goal.see_again-is_seen_new-requires-clause-others
see_again-is_seen_new-requires-clause-others c =
    seen-others (plant_of c.args.system.now) (interactions_in c.args.system.now) c.args.system.now.ranks c.args.parts.now c.requires.of_plant c.args.flipped.now c.args.flipped.now c.args.judgement.now c.requires.behind

pub settle_sure-requires-clause-unsettled : goal.settle_sure-requires-clause-unsettled
settle_sure-requires-clause-unsettled c =
    let plant = plant_of c.args.system.now in
    let flipped = c.args.flipped.now in
    let judged = c.judge_anew-changes in
    let sights = c.see_again-is_seen_new in
    let reached = c.connectors_of_atoms-reached in
    let states = c.shown.ensures.states in
    unsettled plant (interactions_in c.args.system.now) c.args.system.now.ranks c.args.parts.now c.requires.of_plant flipped flipped c.args.judgement.now c.requires.behind
    judged.result reached.result sights.result judged.new.offers judged.new.leaves sights.new.seen
    reached.ensures.told reached.ensures.within
    (subst (λ ss. AreOffered plant.atoms ss judged.new.offers.sets) states judged.ensures.offered) (subst (λ ss. AreMovable plant.atoms ss judged.new.offers.movable) states judged.ensures.movable)
    judged.ensures.counted judged.ensures.leaves judged.ensures.within judged.ensures.told
    sights.ensures.seen sights.ensures.same
