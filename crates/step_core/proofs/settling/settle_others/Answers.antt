use Rattle.std.proofs.Common.{◌∙◌, arith}
use Rattle.std.specs.FinSet.{contains}
use Rattle.priority_filter.specs.Members.{has_bit}
use Rattle.plant_model.specs.System.{interactions_in, plant_of}
use Rattle.step_core.proofs.BoundedWeights.{weight-bounded}
use Rattle.step_core.proofs.LeafStates.{off-of}
use Rattle.step_core.proofs.Openness.{none-possible}
use Rattle.step_core.proofs.SettledBut.{kept-past, kept-still}
use Rattle.step_core.proofs.settling.settle_others.Goals as goal

pub judge_standing-affected-requires-clause-off : goal.judge_standing-affected-requires-clause-off
judge_standing-affected-requires-clause-off c =
    let settled = c.requires.settled in
    let old = c.args.judgement.now in
    off-of (plant_of c.args.system.now) c.args.states.now old.offers.sets old.offers.counts old.leaves c.requires.of_plant settled.offered settled.counted settled.leaves

pub judge_standing-affected-requires-clause-within : goal.judge_standing-affected-requires-clause-within
judge_standing-affected-requires-clause-within c k past = (c.requires.within k past).0

pub judge_standing-affected-requires-clause-others : goal.judge_standing-affected-requires-clause-others
judge_standing-affected-requires-clause-others c = c.requires.settled.possible

pub judge_standing-affected-requires-clause-past : goal.judge_standing-affected-requires-clause-past
judge_standing-affected-requires-clause-past c = c.requires.settled.past

pub judge_standing-affected-requires-clause-standing : goal.judge_standing-affected-requires-clause-standing
judge_standing-affected-requires-clause-standing c = c.requires.settled.standing

pub invariant_of-settling : goal.invariant_of-settling
invariant_of-settling c =
    let settled = c.requires.settled in
    let judged = c.judge_standing-affected.ensures in
    record {
      of_plant = c.requires.of_plant;
      offering = record { offered = settled.offered; counted = settled.counted; leaves = settled.leaves };
      can = judged.possible;
      stands = judged.standing;
    }

pub settle_all-requires-clause-affected_within : goal.settle_all-requires-clause-affected_within
settle_all-requires-clause-affected_within c = c.judge_standing-affected.ensures.within

pub settle_all-requires-clause-heavy_within : goal.settle_all-requires-clause-heavy_within
settle_all-requires-clause-heavy_within c k past = (c.requires.within k past).1

pub settle_all-requires-clause-kept : goal.settle_all-requires-clause-kept
settle_all-requires-clause-kept c =
    let judged = c.judge_standing-affected in
    let changes = c.args.changes in
    kept-still c.args.system.now c.args.states.now (has_bit changes.dirty) (has_bit changes.heavy) c.args.judgement.now c.requires.settled
    judged.result judged.new.possible judged.ensures.same judged.ensures.told

pub settle_all-requires-clause-past : goal.settle_all-requires-clause-past
settle_all-requires-clause-past c =
    kept-past c.args.system.now c.args.states.now (has_bit c.args.changes.dirty) (has_bit c.args.changes.heavy) c.args.judgement.now c.requires.settled

pub settle_all-requires-clause-weights : goal.settle_all-requires-clause-weights
settle_all-requires-clause-weights c = c.requires.settled.weights

pub settle_all-requires-clause-sums : goal.settle_all-requires-clause-sums
settle_all-requires-clause-sums c = c.requires.settled.sums

pub settle_all-requires-clause-bounded : goal.settle_all-requires-clause-bounded
settle_all-requires-clause-bounded c = c.requires.settled.bounded

pub returns : goal.returns
returns c =
    let settled = c.requires.settled in
    let judged = c.judge_standing-affected in
    let weighed = c.settle_all.ensures.weights in
    record {
      offered = settled.offered;
      movable = settled.movable;
      counted = settled.counted;
      leaves = settled.leaves;
      seen = settled.seen;
      possible = λ n k its out. judged.ensures.possible n;
      past = λ n past. judged.ensures.possible n ∙ none-possible (plant_of c.args.system.now) c.args.states.now (interactions_in c.args.system.now) n past;
      standing = judged.ensures.standing;
      kept = c.settle_all.ensures.kept;
      weights = λ k out. weighed.each k;
      sums = weighed.sums;
      bounded = λ k. omega (arith, weighed.each k, weight-bounded c.args.system.now c.args.states.now c.requires.of_plant (contains c.settle_all.new.kept) k);
    }
