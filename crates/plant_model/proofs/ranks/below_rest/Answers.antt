use Rattle.std.proofs.Common.{◌≡◌, ◌<◌, ◌+◌, ◌↔◌, ◌∙◌, ℕ, true, sym, refl, subst, length, arith}
use Rattle.std.proofs.lemmas.Bool.{iff_false}
use Rattle.std.proofs.lemmas.Option.{slice_get_read}
use Rattle.priority_filter.specs.Members.{has_bit}
use Rattle.plant_model.specs.Ranks.{IsInRestOf, is_own}
use Rattle.plant_model.proofs.Ranking.{mark-added, mark-none, mark-passed, own-at}
use Rattle.plant_model.proofs.ranks.below_rest.Goals as goal
use Rattle.plant_model.proofs.ranks.below_rest.Goals.{then-is_one_in_rest, else-is_one_in_rest}

pub is_one_in_rest-requires-clause-range : goal.is_one_in_rest-requires-clause-range
is_one_in_rest-requires-clause-range c =
    let rows = c.args.rows.now in
    let row = c.index-rows-number.result in
    c.requires.ranges c.loop-number.number row (slice_get_read rows (length rows) c.loop-number.number row refl c.loop-number-test.true c.index-rows-number.is)

pub is_one_in_rest-requires-clause-within : goal.is_one_in_rest-requires-clause-within
is_one_in_rest-requires-clause-within c =
    let rows = c.args.rows.now in
    let row = c.index-rows-number.result in
    c.requires.within c.loop-number.number row (slice_get_read rows (length rows) c.loop-number.number row refl c.loop-number-test.true c.index-rows-number.is)

pub loop-number-init : goal.loop-number-init
loop-number-init c = mark-none (IsInRestOf (is_own c.args.rows.now) c.args.rest.now c.args.connector)

pub loop-number-preserved : goal.loop-number-preserved
loop-number-preserved c =
    let rows = c.args.rows.now in
    let connector = c.args.connector in
    let n = c.loop-number.number in
    let word = c.loop-number.below in
    let own = c.index-rows-connector.result in
    let at = slice_get_read rows (length rows) connector own refl c.requires.connector c.index-rows-connector.is in
    let row = c.index-rows-number.result in
    let there = slice_get_read rows (length rows) n row refl c.loop-number-test.true c.index-rows-number.is in
    let P : ℕ → Type 0 = IsInRestOf (is_own rows) c.args.rest.now connector in
    let told = c.is_one_in_rest.ensures in
    elim c.if-is_one_in_rest.branch [
      | then-is_one_in_rest w ↦
          let its = told.0 w.if-is_one_in_rest.true in
          subst (λ x. (k : ℕ) → (has_bit x k ≡ true) ↔ ((k < n + 1) × P k)) (sym w.below-is)
          (mark-added word n P c.loop-number.invariant (omega (arith, c.loop-number-test.true, c.requires.few_rows))
          (its.0, its.1, own-at rows n its.0 row there ∙ its.2, own-at rows connector its.1 own at ∙ its.3, its.4))
      | else-is_one_in_rest w ↦
          subst (λ x. (k : ℕ) → (has_bit x k ≡ true) ↔ ((k < n + 1) × P k)) (sym w.below-is)
          (mark-passed word n P c.loop-number.invariant
          (λ p. iff_false told w.if-is_one_in_rest.false (p.0, p.1, sym (own-at rows n p.0 row there) ∙ p.2, sym (own-at rows connector p.1 own at) ∙ p.3, p.4)))
    ]

pub returns : goal.returns
returns c k = (
  λ set. let its = (c.loop-number.invariant k).0 set in (omega (arith, its.0, c.loop-number.auto.number-end), its.1),
  λ is. (c.loop-number.invariant k).1 (omega (arith, is.0, c.loop-number-test.false), is.1),
)
