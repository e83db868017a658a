use Rattle.std.proofs.Common.{◌∙◌, ap, sym, subst}
use Rattle.std.specs.FinSet.{contains}
use Rattle.std.proofs.lemmas.Bool.{or_from, or_parts}
use Rattle.petri_atom.proofs.Sets.{has-or}
use Rattle.priority_filter.specs.Active.{may_be_marked}
use Rattle.priority_filter.specs.Members.{has_bit}
use Rattle.plant_model.specs.System.{interactions_in, plant_of}
use Rattle.step_core.specs.EnabledTransitions.{AreCounted, AreMovable, AreOffered}
use Rattle.step_core.specs.Leaves.{AreLeaves}
use Rattle.step_core.specs.Possible.{AreAllowed}
use Rattle.step_core.specs.Standing.{IsStanding}
use Rattle.step_core.specs.declared.enabled_transitions.EnabledTransitions.{EnabledTransitions}
use Rattle.step_core.proofs.Counted.{possible-first}
use Rattle.step_core.proofs.LeafStates.{off-of}
use Rattle.step_core.proofs.Unsettled.{allowed-anew, clean, few, kept-behind, light, none-past}
use Rattle.step_core.proofs.settling.settle_seen.Goals as goal

pub judge_standing-affected-requires-clause-off : goal.judge_standing-affected-requires-clause-off
judge_standing-affected-requires-clause-off c =
    let u = c.requires.unsettled in
    let old = c.args.judgement.now in
    off-of (plant_of c.args.system.now) c.args.states.now old.offers.sets old.offers.counts old.leaves c.requires.of_plant u.offered u.counted u.leaves

pub judge_standing-affected-requires-clause-within : goal.judge_standing-affected-requires-clause-within
judge_standing-affected-requires-clause-within c k past = (c.requires.unsettled.within k past).0

pub judge_standing-affected-requires-clause-others : goal.judge_standing-affected-requires-clause-others
judge_standing-affected-requires-clause-others c =
    clean c.args.system.now c.args.states.now c.requires.of_plant c.args.changes c.args.is_seen_new c.args.judgement.now c.requires.unsettled

pub judge_standing-affected-requires-clause-past : goal.judge_standing-affected-requires-clause-past
judge_standing-affected-requires-clause-past c = none-past c.args.system.now c.requires.unsettled.before c.args.judgement.now.possible c.requires.unsettled.possible

pub judge_standing-affected-requires-clause-standing : goal.judge_standing-affected-requires-clause-standing
judge_standing-affected-requires-clause-standing c = c.requires.unsettled.standing

pub keep_again-told-requires-clause-within : goal.keep_again-told-requires-clause-within
keep_again-told-requires-clause-within c = c.judge_standing-affected.ensures.within

pub keep_again-told-requires-clause-past : goal.keep_again-told-requires-clause-past
keep_again-told-requires-clause-past c = none-past c.args.system.now c.args.states.now c.judge_standing-affected.new.possible c.judge_standing-affected.ensures.possible

pub keep_again-told-requires-clause-standing : goal.keep_again-told-requires-clause-standing
keep_again-told-requires-clause-standing c = c.judge_standing-affected.ensures.standing

pub keep_again-told-requires-clause-behind : goal.keep_again-told-requires-clause-behind
keep_again-told-requires-clause-behind c =
    let judged = c.judge_standing-affected in
    kept-behind c.args.system.now c.args.states.now c.requires.of_plant c.args.changes c.args.is_seen_new c.args.judgement.now c.requires.unsettled
    judged.result judged.new.possible judged.ensures.same judged.ensures.told

-- what is kept are the allowed interactions
allowed : (c : goal.After-weigh-arg-1) → AreAllowed (plant_of c.args.system.now) c.args.states.now (interactions_in c.args.system.now) c.keep_again-told.new.kept
allowed c =
    let s = c.args.system.now in
    allowed-anew (plant_of s) c.args.states.now (interactions_in s) c.args.judgement.now.seen c.requires.unsettled.seen c.judge_standing-affected.new.possible c.keep_again-told.new.kept c.judge_standing-affected.ensures.possible
    c.keep_again-told.ensures.kept

pub weigh-requires-clause-within : goal.weigh-requires-clause-within
weigh-requires-clause-within c k past =
    let changes = c.args.changes in
    let more = c.keep_again-told.result in
    has-or changes.heavy more k ∙ or_from (has_bit changes.heavy k) (has_bit more k) (c.requires.unsettled.within k past).1 (c.keep_again-told.ensures.within k past)

pub weigh-requires-clause-offering : goal.weigh-requires-clause-offering
weigh-requires-clause-offering c =
    let s = c.args.system.now in
    let u = c.requires.unsettled in
    record {
      offers = record { offered = u.offered; counted = u.counted; leaves = u.leaves };
      kept = λ n yes_. possible-first (plant_of s) c.args.states.now (interactions_in s) n (sym (allowed c n) ∙ yes_);
    }

pub weigh-requires-clause-others : goal.weigh-requires-clause-others
weigh-requires-clause-others c k out =
    let changes = c.args.changes in
    let more = c.keep_again-told.result in
    let parts = or_parts (has_bit changes.heavy k) (has_bit more k) (sym (has-or changes.heavy more k) ∙ out) in
    light c.args.system.now c.args.states.now c.requires.of_plant changes c.args.is_seen_new c.args.judgement.now c.requires.unsettled c.keep_again-told.new.kept k parts.0 (λ n its. c.keep_again-told.ensures.told n k its parts.1)

pub weigh-requires-clause-sums : goal.weigh-requires-clause-sums
weigh-requires-clause-sums c = c.requires.unsettled.weights.sums

pub weigh-requires-clause-few : goal.weigh-requires-clause-few
weigh-requires-clause-few c = few c.args.system.now c.args.states.now c.requires.of_plant c.args.changes c.args.is_seen_new c.args.judgement.now c.requires.unsettled

pub returns : goal.returns
returns c =
    let s = c.args.system.now in
    let states = c.args.states.now in
    let new = c.weigh.new.judgement in
    let u = c.requires.unsettled in
    let same = c.weigh.ensures in
    let possible = c.judge_standing-affected.new.possible in
    record {
      offered = subst (λ (o : EnabledTransitions). AreOffered (plant_of s).atoms states o.sets) (sym same.offers) u.offered;
      movable = subst (λ (o : EnabledTransitions). AreMovable (plant_of s).atoms states o.movable) (sym same.offers) u.movable;
      counted = subst (λ (o : EnabledTransitions). AreCounted (plant_of s).atoms o.sets o.counts) (sym same.offers) u.counted;
      leaves = subst (λ (o : EnabledTransitions). AreLeaves (plant_of s).wires o.counts new.leaves) (sym same.offers) (subst (AreLeaves (plant_of s).wires c.args.judgement.now.offers.counts) (sym same.leaves) u.leaves);
      possible = λ n. ap (λ set. contains set n) same.possible ∙ c.judge_standing-affected.ensures.possible n;
      seen = λ left right at there. ap (λ rows. may_be_marked rows at) same.seen ∙ u.seen left right at there;
      standing = subst (λ set. IsStanding (plant_of s) (interactions_in s) s.ranks (contains set) new.standing) (sym same.possible)
          (subst (IsStanding (plant_of s) (interactions_in s) s.ranks (contains possible)) (sym same.standing) c.judge_standing-affected.ensures.standing);
      allowed = λ n. ap (λ set. contains set n) same.kept ∙ allowed c.before n;
      weights = same.weights;
    }
