use Rattle.std.proofs.Common.{◌≤◌, ◌^◌, ◌∙◌, sym, subst, arith}
use Rattle.std.specs.FinSet.{contains}
use Rattle.plant_model.specs.System.{interactions_in, plant_of}
use Rattle.step_core.specs.Weights.{is_kept_of}
use Rattle.step_core.proofs.ConnectorRange.{few-interactions}
use Rattle.step_core.proofs.KeptCount.{both-bits, counted-end, counted-start}
use Rattle.step_core.proofs.OwnRange.{few-words}
use Rattle.step_core.proofs.Weighed.{few-choices, few-of-each}
use Rattle.step_core.proofs.weights.Weighing.sum_of_ways.Goals as goal

pub loop-place-init : goal.loop-place-init
loop-place-init c =
    let w = c.args.self.now in (
      omega arith,
      counted-start w.system.now w.states.now (contains w.kept.now) c.args.connector c.requires.possible c.args.rows.now c.requires.connector c.requires.rows c.from-place.result c.from-place.ensures,
    )

pub word-requires : goal.word-requires
word-requires c =
    omega (arith, c.loop-place-test.true, c.from-place-end.ensures, few-words c.args.self.now.system.now c.args.connector c.args.rows.now c.requires.connector c.requires.rows)

pub word-requires-in-loop-place : goal.word-requires-in-loop-place
word-requires-in-loop-place c =
    omega (arith, c.loop-place-test.true, c.from-place-end.ensures, few-words c.args.self.now.system.now c.args.connector c.args.rows.now c.requires.connector c.requires.rows)

pub weight_in-sum-requires-clause-place : goal.weight_in-sum-requires-clause-place
weight_in-sum-requires-clause-place c =
    omega (arith, c.loop-place-test.true, c.from-place-end.ensures, few-words c.args.self.now.system.now c.args.connector c.args.rows.now c.requires.connector c.requires.rows)

pub weight_in-sum-requires-clause-word : goal.weight_in-sum-requires-clause-word
weight_in-sum-requires-clause-word c =
    let w = c.args.self.now in
    both-bits w.system.now c.args.connector c.args.rows.now c.requires.connector c.requires.rows (contains w.kept.now) c.loop-place.place c.word.result c.word-in-loop-place.result c.word.ensures c.word-in-loop-place.ensures

pub returns-clause-weight : goal.returns-clause-weight
returns-clause-weight c =
    let w = c.args.self.now in
    sym c.loop-place.invariant.1 ∙
    counted-end w.system.now w.states.now (contains w.kept.now) c.args.connector c.requires.possible c.args.rows.now c.requires.connector c.requires.rows c.loop-place.place (omega (arith, c.loop-place-test.false, c.from-place-end.ensures))

pub returns-clause-few : goal.returns-clause-few
returns-clause-few c =
    let w = c.args.self.now in
    let s = w.system.now in
    let all = interactions_in s in
    subst (λ n. n ≤ 2 ^ 122) (sym (returns-clause-weight c))
    (few-choices (plant_of s).atoms w.states.now all (is_kept_of all (contains w.kept.now) c.args.connector) (few-interactions s) (few-of-each s w.states.now w.of_plant))
