use Rattle.std.proofs.Common.{◌≡◌, ◌%◌, ◌&&◌, ◌∙◌, ℕ, Bool, not, ap, refl, sym, arith, true, false}
use Rattle.std.specs.FinSet.{contains}
use Rattle.std.proofs.lemmas.Bool.{and_right}
use Rattle.priority_filter.specs.Members.{has_bit}
use Rattle.plant_model.specs.ConnectorRows.{is_of_connector}
use Rattle.plant_model.specs.System.{interactions_in, plant_of}
use Rattle.step_core.specs.Weights.{weight_of}
use Rattle.step_core.proofs.AloneCount.{alone-possible, count-is, put-bits}
use Rattle.step_core.proofs.KeptCount.{weight-bits}
use Rattle.step_core.proofs.OwnWord.{in-place, one-word, own-bit, place-low, put-others, put-own}
use Rattle.step_core.proofs.TopAlone.{only-top}
use Rattle.step_core.proofs.alone.Apart.judge_one.Goals as goal

and-true : (b : Bool) → (b && true) ≡ b
and-true true = refl
and-true false = refl

pub word-own-requires : goal.word-own-requires
word-own-requires c =
    let system = c.args.self.now.system.now in
    let k = c.args.connector in
    let rows = c.args.rows.now in
    place-low system k rows c.requires.connector c.requires.rows (one-word system k rows c.requires.connector c.requires.rows c.requires.one) c.from-place.result c.from-place.ensures

pub put_word-requires-clause-place : goal.put_word-requires-clause-place
put_word-requires-clause-place c =
    let system = c.args.self.now.system.now in
    let k = c.args.connector in
    let rows = c.args.rows.now in
    place-low system k rows c.requires.connector c.requires.rows (one-word system k rows c.requires.connector c.requires.rows c.requires.one) c.from-place.result c.from-place.ensures

pub put_word-requires-clause-own : goal.put_word-requires-clause-own
put_word-requires-clause-own c j out = c.word_where-word.ensures j ∙ and_right c.is_one_possible-is_possible.result (has_bit c.word-own.result j) out

pub put_word-is_new-requires-clause-place : goal.put_word-is_new-requires-clause-place
put_word-is_new-requires-clause-place c =
    let system = c.args.self.now.system.now in
    let k = c.args.connector in
    let rows = c.args.rows.now in
    place-low system k rows c.requires.connector c.requires.rows (one-word system k rows c.requires.connector c.requires.rows c.requires.one) c.from-place.result c.from-place.ensures

pub put_word-is_new-requires-clause-own : goal.put_word-is_new-requires-clause-own
put_word-is_new-requires-clause-own c j out = c.word_where-word.ensures j ∙ and_right c.is_one_possible-is_possible.result (has_bit c.word-own.result j) out

pub returns-clause-kept : goal.returns-clause-kept
returns-clause-kept c =
    let system = c.args.self.now.system.now in
    let k = c.args.connector in
    let rows = c.args.rows.now in
    let within = c.requires.connector in
    let at = c.requires.rows in
    let all = interactions_in system in
    let word = one-word system k rows within at c.requires.one in
    let place = c.from-place.result in
    let its = c.from-place.ensures in
    let own = c.word-own.result in
    let bits = c.word_where-word.result in
    let is = c.is_one_possible-is_possible.result in
    let put = c.put_word.ensures in
    let put_kept = c.put_word-is_new.ensures in
    let possible = c.put_word.new.set in
    let bit : (n : ℕ) → is_of_connector all k n ≡ true → has_bit bits (n % 64) ≡ is =
    λ n owned. c.word_where-word.ensures (n % 64) ∙ ap (λ b. is && b) (own-bit system k rows within at word place its own c.word-own.ensures n (in-place system k rows within at word place its n owned) ∙ owned) ∙ and-true is in
    let can : (n : ℕ) → is_of_connector all k n ≡ true → contains possible n ≡ is =
    λ n owned. put-own system k rows within at word place its own c.word-own.ensures bits c.is_one_possible-is_possible.new.possible possible put.here put.out put.others n owned ∙ bit n owned in
    record {
      judged = λ n owned. can n owned ∙ c.is_one_possible-is_possible.ensures.own n owned;
      others = λ n out.
          put-others system k rows within at word place its own c.word-own.ensures bits c.is_one_possible-is_possible.new.possible possible put.here put.out put.others n out ∙
          c.is_one_possible-is_possible.ensures.others n out;
      keeps = λ n owned.
          put-own system k rows within at word place its own c.word-own.ensures bits c.args.kept.now c.put_word-is_new.new.set put_kept.here put_kept.out put_kept.others n owned ∙
          bit n owned ∙ sym (can n owned) ∙
          sym (ap (λ b. contains possible n && not b) (only-top system k c.requires.alone rows within at c.requires.one (contains possible) n owned) ∙ and-true (contains possible n));
      other_kept = put-others system k rows within at word place its own c.word-own.ensures bits c.args.kept.now c.put_word-is_new.new.set put_kept.here put_kept.out put_kept.others;
    }

-- it is one, or none
pub returns-clause-count : goal.returns-clause-count
returns-clause-count c none =
    let a = c.args.self.now in
    let system = a.system.now in
    let k = c.args.connector in
    let rows = c.args.rows.now in
    let within = c.requires.connector in
    let at = c.requires.rows in
    let all = interactions_in system in
    let word = one-word system k rows within at c.requires.one in
    let place = c.from-place.result in
    let its = c.from-place.ensures in
    let own = c.word-own.result in
    let bits = c.word_where-word.result in
    let kept = c.put_word-is_new.new.set in
    let put = c.put_word-is_new.ensures in
    count-is c.count_where.result c.from.result (weight_of (plant_of system).atoms a.states.now all (contains kept) k) c.count_where.ensures.some
    (c.from.ensures ∙
    weight-bits system a.states.now (contains kept) k
    (alone-possible (plant_of system) all a.states.now k c.args.possible.now c.put_word.new.set c.args.kept.now kept (returns-clause-kept c))
    a.offers.now.sets a.offers.now.counts a.leaves.now a.of_plant a.offering none place bits
    (put-bits all k place own bits (contains kept) (own-bit system k rows within at word place its own c.word-own.ensures)
    (λ j out. c.word_where-word.ensures j ∙ and_right c.is_one_possible-is_possible.result (has_bit own j) out)
    (λ n _ owned. sym (put-own system k rows within at word place its own c.word-own.ensures bits c.args.kept.now kept put.here put.out put.others n owned)))
    (omega (arith, c.word_where-word.type_inv)) rows within at word its)
