use Rattle.std.proofs.Common.{◌≡◌, ◌<◌, ◌≤◌, ◌+◌, ◌-◌, ◌^◌, ℕ, suc, List, length, ap, sym, ◌∙◌, false, arith, ⊎_elim, w64}
use Rattle.std.specs.Prelude.{bit_and, slice_index_or, slice_set}
use Rattle.std.specs.FinSet.{contains}
use Rattle.std.specs.Int.{trailing_zeros}
use Rattle.std.proofs.lemmas.Bool.{cases_eq, cases_lt, true≢false}
use Rattle.std.proofs.lemmas.List.{get_or-set_other, get_or-set_same}
use Rattle.priority_filter.specs.Members.{has_bit}
use Rattle.plant_model.specs.System.{interactions_in, plant_of}
use Rattle.plant_model.proofs.WithoutLowest.{fewer-less}
use Rattle.step_core.specs.Weights.{sum_of, weight_of}
use Rattle.step_core.specs.declared.weights.Weighing.{Weighing}
use Rattle.plant_model.proofs.BitsLeft.{fewer-out}
use Rattle.step_core.proofs.ConnectorRange.{few-interactions}
use Rattle.step_core.proofs.ConnectorWords.{all-possible}
use Rattle.step_core.proofs.LowestBits.{IsRest, bit-below, bit-from, bit-passes, fewer-next}
use Rattle.step_core.proofs.Sums.{sum-set}
use Rattle.step_core.proofs.Weighed.{few-choices, few-of-each, is_kept_before, lighter, lighter-more, lighter-rises}
use Rattle.step_core.proofs.weights.Weighing.weigh_again.Goals as goal

module _ (w : Weighing) where
  abbrev weight : ℕ → ℕ
  weight = weight_of (plant_of w.system.now).atoms w.states.now (interactions_in w.system.now) (contains w.kept.now)

  abbrev before : ℕ → ℕ
  before = lighter (plant_of w.system.now).atoms w.states.now (interactions_in w.system.now) (contains w.kept.now)

  -- what the connectors before one weigh is bounded
  few-before : (k : ℕ) → before k ≤ 2 ^ 122
  few-before k =
      few-choices (plant_of w.system.now).atoms w.states.now (interactions_in w.system.now) (is_kept_before (interactions_in w.system.now) (contains w.kept.now) k)
      (few-interactions w.system.now) (few-of-each w.system.now w.states.now w.of_plant)

  -- one more of them
  before-next : (k j : ℕ) → k ≤ j → before k + weight j ≤ before (j + 1)
  before-next k j from =
      let next : suc j ≡ j + 1 = omega arith in
      let end : k + (j - k) ≡ j = omega (arith, from) in
      omega (
        arith,
        lighter-more (plant_of w.system.now).atoms w.states.now (interactions_in w.system.now) (contains w.kept.now) j,
        lighter-rises (plant_of w.system.now).atoms w.states.now (interactions_in w.system.now) (contains w.kept.now) k (j - k),
        ap before next,
        ap before end,
      )

  module _ (heavy left k : ℕ) (some : 0 < left) (small : left < 2 ^ 64) (rest : IsRest (has_bit heavy) left k) where
    abbrev lowest : ℕ
    lowest = trailing_zeros w64 left

    -- the lowest one that is left is a connector
    lowest-there : ((j : ℕ) → length (plant_of w.system.now).wires ≤ j → has_bit heavy j ≡ false) → lowest < length (plant_of w.system.now).wires
    lowest-there within =
        ⊎_elim (λ there. there) (λ past. absurd (true≢false (sym (bit-passes (has_bit heavy) left k some small rest) ∙ within lowest past))) (cases_lt lowest (length (plant_of w.system.now).wires))

    -- without it, all others are weighed
    weighed : (weights : List ℕ) (new : ℕ) → length weights ≡ 64 → new ≡ weight lowest → ((j : ℕ) → has_bit left j ≡ false → slice_index_or weights j 0 ≡ weight j)
        → (j : ℕ) → has_bit (bit_and left (left - 1)) j ≡ false → slice_index_or (slice_set weights lowest new) j 0 ≡ weight j
    weighed weights new long is so_far j unset =
        let below : lowest < 64 = bit-below (has_bit heavy) left k some small rest in
        ⊎_elim
        (λ same. ap (λ n. slice_index_or (slice_set weights lowest new) n 0) same ∙ get_or-set_same weights lowest new 0 (omega (arith, below, long)) ∙ is ∙ ap weight (sym same))
        (λ other. get_or-set_other weights lowest j new 0 other ∙ so_far j (fewer-out left some small j other unset))
        (cases_eq j lowest)

pub weight_of-requires-clause-connector : goal.weight_of-requires-clause-connector
weight_of-requires-clause-connector c =
    let told = c.loop-left.invariant in
    lowest-there c.args.self.now c.args.heavy c.loop-left.left told.0 (omega (arith, c.loop-left-test.true)) (omega arith) told.2 c.requires.within

pub weight_of-requires-clause-possible : goal.weight_of-requires-clause-possible
weight_of-requires-clause-possible c = all-possible c.args.self.now (trailing_zeros w64 c.loop-left.left) c.requires.possible

pub set-requires-clause-connector : goal.set-requires-clause-connector
set-requires-clause-connector c =
    let told = c.loop-left.invariant in
    bit-below (has_bit c.args.heavy) c.loop-left.left told.0 (omega (arith, c.loop-left-test.true)) (omega arith) told.2

pub set-requires-clause-sums : goal.set-requires-clause-sums
set-requires-clause-sums c = c.loop-left.invariant.4

pub set-requires-clause-few : goal.set-requires-clause-few
set-requires-clause-few c =
    let told = c.loop-left.invariant in
    omega (arith, told.5, few-before c.args.self.now told.0, c.weight_of.ensures.few)

pub loop-left-smaller : goal.loop-left-smaller
loop-left-smaller c = fewer-less w64 c.loop-left.left (omega (arith, c.loop-left-test.true)) (omega arith)

pub loop-left-preserved : goal.loop-left-preserved
loop-left-preserved c =
    let w = c.args.self.now in
    let told = c.loop-left.invariant in
    let old = c.loop-left.weights in
    let some : 0 < c.loop-left.left = omega (arith, c.loop-left-test.true) in
    let lowest = trailing_zeros w64 c.loop-left.left in
    let new = c.weight_of.result in
    let long : length old.of_connectors ≡ 64 = told.4.many in
    let below : lowest < 64 = bit-below (has_bit c.args.heavy) c.loop-left.left told.0 some (omega arith) told.2 in
    let set = sum-set old.of_connectors lowest new (omega (arith, below, long)) in
    let sum : c.set.new.self.total ≡ sum_of (slice_set old.of_connectors lowest new) = c.set.ensures.sums.total ∙ ap sum_of c.set.ensures.weights in (
      lowest + 1,
      omega (arith, below),
      fewer-next (has_bit c.args.heavy) c.loop-left.left told.0 some (omega arith) told.2,
      λ j unset. ap (λ ws. slice_index_or ws j 0) c.set.ensures.weights ∙ weighed w c.args.heavy c.loop-left.left told.0 some (omega arith) told.2 old.of_connectors new long c.weight_of.ensures.weight told.3 j unset,
      c.set.ensures.sums,
      omega (arith, set, sum, told.4.total, told.5, before-next w told.0 lowest (bit-from (has_bit c.args.heavy) c.loop-left.left told.0 some (omega arith) told.2), c.weight_of.ensures.weight),
    )
