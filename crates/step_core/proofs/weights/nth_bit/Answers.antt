use Rattle.std.proofs.Common.{◌≡◌, ◌+◌, ◌<◌, ◌≤◌, ◌^◌, ℕ, arith, count_ones, ⊎_elim, w64}
use Rattle.std.specs.Int.{trailing_zeros}
use Rattle.std.proofs.lemmas.Bool.{cases_eq}
use Rattle.priority_filter.specs.Members.{has_bit}
use Rattle.step_core.proofs.LowestBits.{IsRest, bit-below, fewer-next}
use Rattle.step_core.proofs.Ones.{counted-all, counted-next, lowest-place, lowest-set, ones_below}
use Rattle.step_core.proofs.weights.nth_bit.Goals as goal

-- while fewer are counted than there are, one is left
some-left : (word place left k counter : ℕ) → k ≤ 64 → word < 2 ^ 64 → IsRest (has_bit word) left k → ones_below word k ≡ counter → counter < count_ones word → 0 < left
some-left word place left k counter within small rest counted more =
    ⊎_elim (λ none. absurd (omega (arith, counted-all word left k rest within small none, counted, more))) (λ some. omega (arith, some)) (cases_eq left 0)

pub overflow_sub-left : goal.overflow_sub-left
overflow_sub-left c =
    let before = c.loop.invariant in
    some-left c.args.word c.args.place c.loop.left before.0 c.loop.counter before.1 (omega arith) before.2 before.3 (omega (arith, c.loop-test.true, c.requires))

pub loop-preserved : goal.loop-preserved
loop-preserved c =
    let before = c.loop.invariant in
    let some : 0 < c.loop.left = some-left c.args.word c.args.place c.loop.left before.0 c.loop.counter before.1 (omega arith) before.2 before.3 (omega (arith, c.loop-test.true, c.requires)) in (
      trailing_zeros w64 c.loop.left + 1,
      omega (arith, bit-below (has_bit c.args.word) c.loop.left before.0 some (omega arith) before.2),
      fewer-next (has_bit c.args.word) c.loop.left before.0 some (omega arith) before.2,
      omega (arith, counted-next c.args.word c.loop.left before.0 before.2 some (omega arith), before.3),
    )

pub returns-clause-low : goal.returns-clause-low
returns-clause-low c =
    let before = c.loop.invariant in
    let some : 0 < c.loop.left = some-left c.args.word c.args.place c.loop.left before.0 c.loop.counter before.1 (omega arith) before.2 before.3 (omega (arith, c.loop-test.false, c.loop.auto.counter-end, c.requires)) in
    bit-below (has_bit c.args.word) c.loop.left before.0 some (omega arith) before.2

pub returns-clause-set : goal.returns-clause-set
returns-clause-set c =
    let before = c.loop.invariant in
    let some : 0 < c.loop.left = some-left c.args.word c.args.place c.loop.left before.0 c.loop.counter before.1 (omega arith) before.2 before.3 (omega (arith, c.loop-test.false, c.loop.auto.counter-end, c.requires)) in
    lowest-set c.args.word c.loop.left before.0 before.2 some (omega arith)

pub returns-clause-place : goal.returns-clause-place
returns-clause-place c =
    let before = c.loop.invariant in
    let some : 0 < c.loop.left = some-left c.args.word c.args.place c.loop.left before.0 c.loop.counter before.1 (omega arith) before.2 before.3 (omega (arith, c.loop-test.false, c.loop.auto.counter-end, c.requires)) in
    omega (arith, lowest-place c.args.word c.loop.left before.0 before.2 some (omega arith), before.3, c.loop-test.false, c.loop.auto.counter-end)
