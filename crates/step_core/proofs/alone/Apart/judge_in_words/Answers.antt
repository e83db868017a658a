use Rattle.std.proofs.Common.{◌≡◌, ◌∙◌, ap, refl, sym}
use Rattle.std.specs.FinSet.{contains}
use Rattle.plant_model.specs.System.{interactions_in, plant_of}
use Rattle.step_core.specs.Standing.{is_kept_always}
use Rattle.step_core.proofs.LeafStates.{off-of}
use Rattle.step_core.proofs.OfAlone.{stands-elsewhere}
use Rattle.step_core.proofs.alone.Apart.judge_in_words.Goals as goal

pub judge_connector-requires-clause-off : goal.judge_connector-requires-clause-off
judge_connector-requires-clause-off c =
    let a = c.args.self.now in
    off-of (plant_of a.system.now) a.states.now a.offers.now.sets a.offers.now.counts a.leaves.now a.of_plant a.offering.offered a.offering.counted a.offering.leaves c.args.connector

-- where the same is possible, the same is kept
pub returns-then-not-judge_connector-clause-kept : goal.returns-then-not-judge_connector-clause-kept
returns-then-not-judge_connector-clause-kept c =
    let a = c.args.self.now in
    let told = c.judge_connector.ensures in
    let still : contains c.args.possible.now ≡ contains c.judge_connector.new.possible = λ i m. sym (told.same c.if-not-judge_connector.true m) i in
    record {
      judged = told.judged;
      others = told.others;
      keeps = λ n _. c.requires.kept n ∙ ap (λ test. is_kept_always (plant_of a.system.now) (interactions_in a.system.now) test n) still;
      other_kept = λ n _. refl;
    }

pub keep_top-requires-clause-standing : goal.keep_top-requires-clause-standing
keep_top-requires-clause-standing c =
    let a = c.args.self.now in
    stands-elsewhere a.system.now c.args.connector c.requires.alone (contains c.args.possible.now) (contains c.judge_connector.new.possible) a.standing.now c.judge_connector.ensures.others c.requires.standing

pub returns-clause-kept : goal.returns-clause-kept
returns-clause-kept c = record {
  judged = c.judge_connector.ensures.judged;
  others = c.judge_connector.ensures.others;
  keeps = c.keep_top.ensures.kept;
  other_kept = c.keep_top.ensures.others;
}
