use Rattle.std.proofs.Common.{◌∙◌, ⊎_elim, refl, ap, arith}
use Rattle.std.proofs.lemmas.Bool.{both_ways, cases_eq, true≢false}
use Rattle.priority_filter.specs.Active.{unconditional}
use Rattle.priority_filter.specs.Decided.{is_below}
use Rattle.plant_model.proofs.Ranking.{in-range, of-range}
use Rattle.plant_model.proofs.ranks.is_some_above.Goals as goal

pub returns-then-is_one_above : goal.returns-then-is_one_above
returns-then-is_one_above c = (
  λ bad. absurd (true≢false bad),
  λ none.
      let number = c.loop-number.number in
      let found = c.is_one_above.ensures.some c.if-is_one_above.true in
      let own = of-range c.args.below.now c.requires.below number (omega (arith, c.loop-number.auto.number, c.from-first.ensures)) (omega (arith, c.loop-number-test.true, c.from-first.ensures, c.from.ensures)) in
      absurd (both_ways (is_below (unconditional c.args.order.now.rules) c.args.order.now.interactions number found.0) (none number found.0 own found.1) found.2),
)

pub loop-number-preserved : goal.loop-number-preserved
loop-number-preserved c n m from below own =
    ⊎_elim
    (λ same. ap (λ k. is_below (unconditional c.args.order.now.rules) c.args.order.now.interactions k m) same ∙ c.is_one_above.ensures.none c.if-is_one_above.false m own)
    (λ other. c.loop-number.invariant n m from (omega (arith, below, other)) own)
    (cases_eq n c.loop-number.number)

pub returns : goal.returns
returns c = (
  λ _ n m own its.
      let range = in-range c.args.below.now c.requires.below n own in
      c.loop-number.invariant n m (omega (arith, range.0, c.from-first.ensures)) (omega (arith, range.1, c.from-first.ensures, c.from.ensures, c.loop-number-test.false)) its,
  λ _. refl,
)
