use Rattle.std.proofs.Common.{◌≡◌, ◌%◌, ◌&&◌, ◌∙◌, not, ap, refl, sym, arith}
use Rattle.std.specs.FinSet.{contains}
use Rattle.std.proofs.lemmas.Bool.{and_right}
use Rattle.priority_filter.specs.Members.{has_bit}
use Rattle.priority_filter.proofs.Words.{bit-and}
use Rattle.plant_model.specs.System.{interactions_in, plant_of}
use Rattle.step_core.specs.Standing.{is_always_overruled, is_kept_always}
use Rattle.step_core.specs.Weights.{weight_of}
use Rattle.step_core.proofs.AloneCount.{alone-possible, count-is, put-bits}
use Rattle.step_core.proofs.KeptCount.{weight-bits}
use Rattle.step_core.proofs.TopAlone.{weight-empty}
use Rattle.step_core.proofs.LeafStates.{off-of}
use Rattle.step_core.proofs.OfAlone.{stands-elsewhere}
use Rattle.step_core.proofs.OwnWord.{in-place, own-bit, place-low, put-others, put-own}
use Rattle.step_core.proofs.alone.Apart.judge_in_word.Goals as goal

pub judge_connector-requires-clause-off : goal.judge_connector-requires-clause-off
judge_connector-requires-clause-off c =
    let a = c.args.self.now in
    off-of (plant_of a.system.now) a.states.now a.offers.now.sets a.offers.now.counts a.leaves.now a.of_plant a.offering.offered a.offering.counted a.offering.leaves c.args.connector

-- where the same is possible, the same is kept
pub returns-then-not-judge_connector-clause-kept : goal.returns-then-not-judge_connector-clause-kept
returns-then-not-judge_connector-clause-kept c =
    let a = c.args.self.now in
    let told = c.judge_connector.ensures in
    let still : contains c.args.possible.now ≡ contains c.judge_connector.new.possible = λ i m. sym (told.same c.if-not-judge_connector.true m) i in
    record {
      judged = told.judged;
      others = told.others;
      keeps = λ n _. c.requires.kept n ∙ ap (λ test. is_kept_always (plant_of a.system.now) (interactions_in a.system.now) test n) still;
      other_kept = λ n _. refl;
    }

pub word-own-requires : goal.word-own-requires
word-own-requires c = place-low c.args.self.now.system.now c.args.connector c.args.rows.now c.requires.connector c.requires.rows c.requires.word c.from-place.result c.from-place.ensures

pub word-requires : goal.word-requires
word-requires c = place-low c.args.self.now.system.now c.args.connector c.args.rows.now c.requires.connector c.requires.rows c.requires.word c.from-place.result c.from-place.ensures

pub top_of_word-word-requires-clause-place : goal.top_of_word-word-requires-clause-place
top_of_word-word-requires-clause-place c = place-low c.args.self.now.system.now c.args.connector c.args.rows.now c.requires.connector c.requires.rows c.requires.word c.from-place.result c.from-place.ensures

pub top_of_word-word-requires-clause-standing : goal.top_of_word-word-requires-clause-standing
top_of_word-word-requires-clause-standing c =
    let a = c.args.self.now in
    stands-elsewhere a.system.now c.args.connector c.requires.alone (contains c.args.possible.now) (contains c.judge_connector.new.possible) a.standing.now c.judge_connector.ensures.others c.requires.standing

pub top_of_word-word-requires-clause-in_word : goal.top_of_word-word-requires-clause-in_word
top_of_word-word-requires-clause-in_word c = in-place c.args.self.now.system.now c.args.connector c.args.rows.now c.requires.connector c.requires.rows c.requires.word c.from-place.result c.from-place.ensures

-- the possible ones of the connector
pub top_of_word-word-requires-clause-word : goal.top_of_word-word-requires-clause-word
top_of_word-word-requires-clause-word c n here =
    let own = c.word-own.result in
    let can = c.word.result in
    bit-and can own (n % 64) ∙ ap (λ b. b && has_bit own (n % 64)) (c.word.ensures n here) ∙
    ap (λ b. contains c.judge_connector.new.possible n && b)
    (own-bit c.args.self.now.system.now c.args.connector c.args.rows.now c.requires.connector c.requires.rows c.requires.word c.from-place.result c.from-place.ensures own c.word-own.ensures n here)

pub put_word-is_new-requires-clause-place : goal.put_word-is_new-requires-clause-place
put_word-is_new-requires-clause-place c = place-low c.args.self.now.system.now c.args.connector c.args.rows.now c.requires.connector c.requires.rows c.requires.word c.from-place.result c.from-place.ensures

pub put_word-is_new-requires-clause-own : goal.put_word-is_new-requires-clause-own
put_word-is_new-requires-clause-own c j out =
    c.top_of_word-word.ensures.within j (bit-and c.word.result c.word-own.result j ∙ and_right (has_bit c.word.result j) (has_bit c.word-own.result j) out)

pub returns-clause-kept : goal.returns-clause-kept
returns-clause-kept c =
    let system = c.args.self.now.system.now in
    let k = c.args.connector in
    let put = c.put_word-is_new.ensures in
    record {
      judged = c.judge_connector.ensures.judged;
      others = c.judge_connector.ensures.others;
      keeps = λ n own.
          put-own system k c.args.rows.now c.requires.connector c.requires.rows c.requires.word c.from-place.result c.from-place.ensures c.word-own.result c.word-own.ensures
          c.top_of_word-word.result c.args.kept.now c.put_word-is_new.new.set put.here put.out put.others n own ∙ c.top_of_word-word.ensures.top n own;
      other_kept = put-others system k c.args.rows.now c.requires.connector c.requires.rows c.requires.word c.from-place.result c.from-place.ensures c.word-own.result c.word-own.ensures
          c.top_of_word-word.result c.args.kept.now c.put_word-is_new.new.set put.here put.out put.others;
    }

-- the bits are as many as the choices
pub returns-clause-count : goal.returns-clause-count
returns-clause-count c none =
    let a = c.args.self.now in
    let system = a.system.now in
    let k = c.args.connector in
    let rows = c.args.rows.now in
    let within = c.requires.connector in
    let at = c.requires.rows in
    let all = interactions_in system in
    let word = c.requires.word in
    let place = c.from-place.result in
    let its = c.from-place.ensures in
    let own = c.word-own.result in
    let bits = c.top_of_word-word.result in
    let kept = c.put_word-is_new.new.set in
    let put = c.put_word-is_new.ensures in
    count-is c.count_where-2.result c.from.result (weight_of (plant_of system).atoms a.states.now all (contains kept) k) c.count_where-2.ensures.some
    (c.from.ensures ∙
    weight-bits system a.states.now (contains kept) k
    (alone-possible (plant_of system) all a.states.now k c.args.possible.now c.judge_connector.new.possible c.args.kept.now kept (returns-clause-kept c))
    a.offers.now.sets a.offers.now.counts a.leaves.now a.of_plant a.offering none place bits
    (put-bits all k place own bits (contains kept) (own-bit system k rows within at word place its own c.word-own.ensures)
    (λ j out. c.top_of_word-word.ensures.within j (bit-and c.word.result own j ∙ and_right (has_bit c.word.result j) (has_bit own j) out))
    (λ n _ owned. sym (put-own system k rows within at word place its own c.word-own.ensures bits c.args.kept.now kept put.here put.out put.others n owned)))
    (omega (arith, c.top_of_word-word.type_inv)) rows within at word its)

-- ---- where none was possible, and none is

pub returns-then-is_still-clause-kept : goal.returns-then-is_still-clause-kept
returns-then-is_still-clause-kept c = record {
  judged = λ n own. c.is_still.ensures.before c.if-is_still.true n own ∙ sym (c.is_still.ensures.now c.if-is_still.true n own);
  others = λ n _. refl;
  keeps = λ n _. c.requires.kept n;
  other_kept = λ n _. refl;
}

pub returns-then-is_still-clause-count : goal.returns-then-is_still-clause-count
returns-then-is_still-clause-count c none =
    let a = c.args.self.now in
    let plant = plant_of a.system.now in
    let all = interactions_in a.system.now in
    count-is c.count_where.result 0 (weight_of plant.atoms a.states.now all (contains c.args.kept.now) c.args.connector) c.count_where.ensures.some
    (sym (weight-empty plant.atoms a.states.now all (contains c.args.kept.now) c.args.connector
    (λ n own. c.requires.kept n ∙ ap (λ b. b && not (is_always_overruled plant all (contains c.args.possible.now) n)) (c.is_still.ensures.before c.if-is_still.true n own))))
