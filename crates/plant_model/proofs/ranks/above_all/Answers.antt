use Rattle.std.proofs.Common.{◌/◌, ◌∙◌, not, ⊎_elim, ap, sym, arith}
use Rattle.std.specs.FinSet.{contains, contains-empty}
use Rattle.std.specs.Ordering.{nat_cmp}
use Rattle.std.proofs.lemmas.Bool.{and_from, and_parts, both_ways, cases_eq, cases_lt, not-true}
use Rattle.priority_filter.specs.Active.{unconditional}
use Rattle.priority_filter.specs.Decided.{is_below}
use Rattle.priority_filter.specs.declared.interaction_set.TheConstants.{ROW_WORDS}
use Rattle.plant_model.proofs.Ranking.{in-range, of-range, up-inside}
use Rattle.plant_model.proofs.ranks.above_all.Goals as goal

pub returns-then-rows-eq0 : goal.returns-then-rows-eq0
returns-then-rows-eq0 c m = (
  λ inside. absurd (both_ways (contains c.new.result m) (ap (λ set. contains set m) c.new.ensures ∙ contains-empty nat_cmp m) inside),
  λ is. let range = in-range c.args.rows.now c.requires.range is.some.0 is.some.1 in absurd (omega (arith, range.0, range.1, c.if-rows-eq0.true)),
)

pub loop-number-init : goal.loop-number-init
loop-number-init c m =
    let rules = c.args.order.now.rules in
    let names = c.args.order.now.interactions in
    let under = is_below (unconditional rules) names in
    let rows = c.args.rows.now in
    let above = c.above_without-above.ensures m in (
      λ inside.
          let parts = and_parts (under rows.first m) (not (contains rows.own m)) (sym above ∙ inside) in (
            not-true (contains rows.own m) parts.1,
            λ n from below. ap (λ k. under k m) (omega (arith, from, below, c.from-first.ensures)) ∙ parts.0,
          ),
      λ is. above ∙ and_from (under rows.first m) (not (contains rows.own m)) (is.1 rows.first (omega (arith, c.from-first.ensures)) (omega (arith, c.from-first.ensures))) (ap not is.0),
    )

pub loop-number-preserved : goal.loop-number-preserved
loop-number-preserved c m =
    let rules = c.args.order.now.rules in
    let names = c.args.order.now.interactions in
    let under = is_below (unconditional rules) names in
    let number = c.loop-number.number in
    let old = c.loop-number.above in
    let before = c.loop-number.invariant m in
    ⊎_elim
    (λ low.
    let kept = c.keep_above.ensures.within m low in (
      λ inside.
          let parts = and_parts (contains old m) (under number m) (sym kept ∙ inside) in
          let its = before.0 parts.0 in
          (its.0, λ n from below. ⊎_elim (λ same. ap (λ k. under k m) same ∙ parts.1) (λ other. its.1 n from (omega (arith, below, other))) (cases_eq n number)),
      λ is. kept ∙
          and_from (contains old m) (under number m) (before.1 (is.0, λ n from below. is.1 n from (omega (arith, below))))
          (is.1 number (omega (arith, c.loop-number.auto.number)) (omega arith)),
    ))
    (λ past.
    let kept = c.keep_above.ensures.past m past in (
      λ inside.
          let its = before.0 (sym kept ∙ inside) in
          let up = its.1 c.from-first.result (omega arith) (omega (arith, c.loop-number.auto.number)) in
          absurd (omega (arith, up-inside rules names c.from-first.result m up, c.requires.few, past)),
      λ is. kept ∙ before.1 (is.0, λ n from below. is.1 n from (omega (arith, below))),
    ))
    (cases_lt (m / 64) ROW_WORDS)

pub returns : goal.returns
returns c m =
    let rows = c.args.rows.now in
    let range = c.requires.range in
    let its = c.loop-number.invariant m in
    let begins = c.from-first.ensures in
    let ends = c.from.ensures in (
      λ inside.
          let is = its.0 inside in
          record {
            apart = is.0;
            some = (rows.first, of-range rows range rows.first (omega arith) (omega (arith, c.if-rows-eq0.false)));
            each = λ n own. let at = in-range rows range n own in is.1 n (omega (arith, at.0, begins)) (omega (arith, at.1, begins, ends, c.loop-number-test.false));
          },
      λ is. its.1 (is.apart, λ n from below. is.each n (of-range rows range n (omega (arith, from, begins)) (omega (arith, below, begins, ends, c.loop-number.auto.number-end)))),
    )
