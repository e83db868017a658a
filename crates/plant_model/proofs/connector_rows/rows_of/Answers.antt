use Rattle.std.proofs.Common.{◌≡◌, ◌≤◌, ◌<◌, ◌+◌, ◌-◌, ◌/◌, ◌∙◌, refl, sym, ap, map, nat_lt, arith}
use Rattle.priority_filter.specs.declared.interaction_set.TheConstants.{ROW_WORDS}
use Rattle.plant_model.specs.Interaction.{interaction_of}
use Rattle.plant_model.proofs.ByConnector.{in-all-own, in-range, range-rises, with-none, with-one}
use Rattle.plant_model.proofs.LowWords.{words-same}
use Rattle.plant_model.proofs.connector_rows.rows_of.Goals as goal

pub row_with_all-own-requires-clause-first : goal.row_with_all-own-requires-clause-first
row_with_all-own-requires-clause-first c =
    range-rises (map interaction_of c.args.interactions.now) c.args.connector c.count_before-first.result c.count_before-end.result c.count_before-first.ensures.before c.count_before-end.ensures.before

pub rows_of_leaves-requires-clause-first : goal.rows_of_leaves-requires-clause-first
rows_of_leaves-requires-clause-first c =
    range-rises (map interaction_of c.args.interactions.now) c.args.connector c.count_before-first.result c.count_before-end.result c.count_before-first.ensures.before c.count_before-end.ensures.before

pub rows_of_clauses-requires-clause-first : goal.rows_of_clauses-requires-clause-first
rows_of_clauses-requires-clause-first c =
    range-rises (map interaction_of c.args.interactions.now) c.args.connector c.count_before-first.result c.count_before-end.result c.count_before-first.ensures.before c.count_before-end.ensures.before

pub leaves_of_all-requires-clause-first : goal.leaves_of_all-requires-clause-first
leaves_of_all-requires-clause-first c =
    range-rises (map interaction_of c.args.interactions.now) c.args.connector c.count_before-first.result c.count_before-end.result c.count_before-first.ensures.before c.count_before-end.ensures.before

pub overflow_sub-result : goal.overflow_sub-result
overflow_sub-result c =
    range-rises (map interaction_of c.args.interactions.now) c.args.connector c.count_before-first.result c.count_before-end.result c.count_before-first.ensures.before c.count_before-end.ensures.before

pub returns : goal.returns
returns c =
    let all = map interaction_of c.args.interactions.now in
    let k = c.args.connector in
    let first = c.count_before-first.result in
    let end = c.count_before-end.result in
    let begins = c.count_before-first.ensures.before in
    let ends = c.count_before-end.ensures.before in
    let rises : first ≤ end = range-rises all k first end begins ends in
    let whole : end ≡ first + (end - first) = omega (arith, rises) in
    record {
      begins = begins;
      ends = λ n. ends n ∙ ap (nat_lt n) whole;
      low = refl;
      high = omega (arith, rises, c.div_ceil.ensures);
      must = λ j.
          let owned = in-all-own all k first end begins ends j in (
            λ set. let its = (c.leaves_of_all.ensures j).0 set in (its.0, owned.0 its.1),
            λ is. (c.leaves_of_all.ensures j).1 (is.0, owned.1 is.1),
          );
      own = λ n. c.row_with_all-own.ensures n ∙ in-range all k first end begins ends 0 n ∙ with-none all c.requires.listed k n;
      leaves = c.in_ok-on_leaf.ensures.as_many;
      on_leaf = λ leaf n below. c.in_ok-on_leaf.ensures.each leaf n below ∙ in-range all k first end begins ends _ n ∙ with-one all c.requires.listed k leaf n (omega (arith, below, c.requires.leaves));
      clauses = c.in_ok-under_clause.ensures.as_many;
      under_clause = λ j n clause there. c.in_ok-under_clause.ensures.each j n clause there ∙ in-range all k first end begins ends clause.leaves n;
      low_words = λ (small : first / 64 < ROW_WORDS).
          let place : c.min-place.result ≡ first / 64 = omega (arith, small, c.min-place.ensures) in record {
            own = λ n at. c.word.ensures n (at ∙ sym place);
            on_leaf = words-same c.min-place.result (first / 64) c.deref.result.now c.in_ok-on_leaf.on_leaf.items c.in_ok-low_on_leaf.low_on_leaf.items place c.deref.ensures.value c.in_ok-low_on_leaf.ensures;
            under_clause = words-same c.min-place.result (first / 64) c.deref-2.result.now c.in_ok-under_clause.under_clause.items c.in_ok-low_under_clause.low_under_clause.items place c.deref-2.ensures.value c.in_ok-low_under_clause.ensures;
          };
    }
