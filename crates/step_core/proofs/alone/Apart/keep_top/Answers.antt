use Rattle.std.proofs.Common.{◌≡◌, ◌<◌, ◌/◌, ◌%◌, ◌^◌, ◌∙◌, ℕ, refl, sym, arith, ⊎_elim}
use Rattle.std.specs.FinSet.{contains}
use Rattle.std.proofs.lemmas.Bool.{and_right, cases_eq, or_parts}
use Rattle.priority_filter.specs.Members.{has_bit}
use Rattle.priority_filter.proofs.Words.{bit-and}
use Rattle.plant_model.specs.ConnectorRows.{is_of_connector}
use Rattle.plant_model.specs.System.{interactions_in, plant_of}
use Rattle.step_core.specs.Standing.{is_kept_always}
use Rattle.step_core.specs.Weights.{weight_of}
use Rattle.step_core.proofs.AloneCount.{count-is, put-bits, top-possible}
use Rattle.step_core.proofs.BoundedWeights.{weight-same}
use Rattle.step_core.proofs.KeptCount.{both-bits, counted-bits, counted-end, counted-start}
use Rattle.step_core.proofs.Ones.{few-ones}
use Rattle.step_core.proofs.OwnRange.{few-words, own-of, own-words}
use Rattle.step_core.proofs.Ranked.{rank-at}
use Rattle.step_core.proofs.alone.Apart.keep_top.Goals as goal

pub loop-place-init : goal.loop-place-init
loop-place-init c =
    let a = c.args.self.now in
    let system = a.system.now in
    let plant = plant_of system in
    let all = interactions_in system in
    let can = contains c.args.possible.now in
    record {
      kept = λ n own below. absurd (omega (
        arith,
        below,
        (own-words system c.args.connector c.args.rows.now c.requires.connector c.requires.rows n own).0,
        c.from-place.ensures,
      ));
      others = λ n out. refl;
      same = λ _ n. refl;
      few = omega arith;
      counted = λ _. counted-start system a.states.now (is_kept_always plant all can) c.args.connector (top-possible plant all a.states.now c.args.connector can c.requires.judged)
          c.args.rows.now c.requires.connector c.requires.rows c.from-place.result c.from-place.ensures;
    }

pub word-own-requires : goal.word-own-requires
word-own-requires c =
    omega (arith, c.loop-place-test.true, c.from-place-end.ensures, few-words c.args.self.now.system.now c.args.connector c.args.rows.now c.requires.connector c.requires.rows)

pub word-requires : goal.word-requires
word-requires c =
    omega (arith, c.loop-place-test.true, c.from-place-end.ensures, few-words c.args.self.now.system.now c.args.connector c.args.rows.now c.requires.connector c.requires.rows)

pub top_of_words-word-requires-clause-rank : goal.top_of_words-word-requires-clause-rank
top_of_words-word-requires-clause-rank c = rank-at c.args.self.now.system.now c.args.connector c.index-rank.result.now c.requires.connector c.index-rank.ensures

pub top_of_words-word-requires-clause-place : goal.top_of_words-word-requires-clause-place
top_of_words-word-requires-clause-place c =
    omega (arith, c.loop-place-test.true, c.from-place-end.ensures, few-words c.args.self.now.system.now c.args.connector c.args.rows.now c.requires.connector c.requires.rows)

pub top_of_words-word-requires-clause-word : goal.top_of_words-word-requires-clause-word
top_of_words-word-requires-clause-word c =
    both-bits c.args.self.now.system.now c.args.connector c.args.rows.now c.requires.connector c.requires.rows (contains c.args.possible.now) c.loop-place.place c.word.result c.word-own.result c.word.ensures c.word-own.ensures

pub put_word-is_new-requires-clause-place : goal.put_word-is_new-requires-clause-place
put_word-is_new-requires-clause-place c =
    omega (arith, c.loop-place-test.true, c.from-place-end.ensures, few-words c.args.self.now.system.now c.args.connector c.args.rows.now c.requires.connector c.requires.rows)

pub put_word-is_new-requires-clause-own : goal.put_word-is_new-requires-clause-own
put_word-is_new-requires-clause-own c j out =
    c.top_of_words-word.ensures.within j (bit-and c.word.result c.word-own.result j ∙ and_right (has_bit c.word.result j) (has_bit c.word-own.result j) out)

-- at most 64 for each of 16 words
pub overflow_add-count : goal.overflow_add-count
overflow_add-count c =
    let small : c.top_of_words-word.result < 2 ^ 64 = omega (arith, c.top_of_words-word.type_inv) in
    omega (
      arith,
      c.loop-place.invariant.few,
      c.from-count.ensures,
      few-ones c.top_of_words-word.result small,
      c.loop-place-test.true,
      c.from-place-end.ensures,
      few-words c.args.self.now.system.now c.args.connector c.args.rows.now c.requires.connector c.requires.rows,
    )

pub loop-place-preserved : goal.loop-place-preserved
loop-place-preserved c =
    let a = c.args.self.now in
    let system = a.system.now in
    let plant = plant_of system in
    let all = interactions_in system in
    let k = c.args.connector in
    let rows = c.args.rows.now in
    let can = contains c.args.possible.now in
    let keeps = is_kept_always plant all can in
    let place = c.loop-place.place in
    let invariant = c.loop-place.invariant in
    let own = c.word-own.result in
    let word = c.top_of_words-word.result in
    let top = c.top_of_words-word.ensures in
    let put = c.put_word-is_new.ensures in
    let small : word < 2 ^ 64 = omega (arith, c.top_of_words-word.type_inv) in
    let own-bit : (n : ℕ) → n / 64 ≡ place → has_bit own (n % 64) ≡ is_of_connector all k n =
    λ n here. c.word-own.ensures n here ∙ own-of system k rows c.requires.connector c.requires.rows n in
    record {
      kept = λ n its below. ⊎_elim
          (λ here. put.here n here (own-bit n here ∙ its) ∙ top.top n here its)
          (λ apart. put.others n apart ∙ invariant.kept n its (omega (arith, below, apart)))
          (cases_eq (n / 64) place);
      others = λ n out. ⊎_elim
          (λ here. put.out n here (own-bit n here ∙ out) ∙ invariant.others n out)
          (λ apart. put.others n apart ∙ invariant.others n out)
          (cases_eq (n / 64) place);
      same = λ still n. let parts = or_parts c.loop-place.is_new c.put_word-is_new.result still in put.same parts.1 n ∙ invariant.same parts.0 n;
      few = omega (arith, invariant.few, c.from-count.ensures, few-ones word small);
      counted = λ none.
          counted-bits system a.states.now keeps k (top-possible plant all a.states.now k can c.requires.judged) a.offers.now.sets a.offers.now.counts a.leaves.now a.of_plant a.offering none place word
          (put-bits all k place own word keeps own-bit
          (λ j out. top.within j (bit-and c.word.result own j ∙ and_right (has_bit c.word.result j) (has_bit own j) out))
          top.top) small ∙
          omega (arith, invariant.counted none, c.from-count.ensures);
    }

pub returns-clause-kept : goal.returns-clause-kept
returns-clause-kept c n own =
    c.loop-place.invariant.kept n own
    (omega (arith, (own-words c.args.self.now.system.now c.args.connector c.args.rows.now c.requires.connector c.requires.rows n own).1, c.from-place-end.ensures, c.loop-place-test.false))

pub returns-clause-others : goal.returns-clause-others
returns-clause-others c = c.loop-place.invariant.others

pub returns-clause-same : goal.returns-clause-same
returns-clause-same c still =
    c.loop-place.invariant.same (or_parts c.loop-place.is_new c.args.self.now.is_heavy (c.count_where.ensures.none still)).0

pub returns-clause-count : goal.returns-clause-count
returns-clause-count c none =
    let a = c.args.self.now in
    let system = a.system.now in
    let plant = plant_of system in
    let all = interactions_in system in
    let k = c.args.connector in
    let can = contains c.args.possible.now in
    let keeps = is_kept_always plant all can in
    count-is c.count_where.result c.loop-place.count (weight_of plant.atoms a.states.now all (contains c.loop-place.kept) k) c.count_where.ensures.some
    (sym (c.loop-place.invariant.counted none) ∙
    counted-end system a.states.now keeps k (top-possible plant all a.states.now k can c.requires.judged) c.args.rows.now c.requires.connector c.requires.rows c.loop-place.place
    (omega (arith, c.loop-place-test.false, c.from-place-end.ensures)) ∙
    sym (weight-same plant.atoms a.states.now all keeps (contains c.loop-place.kept) k (λ n own. returns-clause-kept c n own)))
