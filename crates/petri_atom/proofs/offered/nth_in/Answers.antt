use Rattle.std.proofs.Common.{◌-◌, ◌/◌, ◌<◌, ◌≤◌, ◌^◌, refl, sym, arith}
use Rattle.std.specs.Prelude.{count_ones}
use Rattle.petri_atom.proofs.Picking.{nth-low, nth-high, nth-past}
use Rattle.petri_atom.proofs.offered.nth_in.Goals as goal

pub returns-then-place-lower : goal.returns-then-place-lower
returns-then-place-lower c =
    sym (nth-low c.args.set c.low_word-low.result (c.args.set / 2 ^ 64) c.args.place c.low_word-low.ensures refl c.nth_in_word.result c.if-place-lower.true c.nth_in_word.ensures.nth)

pub returns-then-place-lower-2 : goal.returns-then-place-lower-2
returns-then-place-lower-2 c =
    let past : count_ones c.low_word-low.result ≤ c.args.place = omega (arith, c.if-place-lower.false) in
    sym (nth-high c.args.set c.low_word-low.result (c.args.set / 2 ^ 64) c.args.place c.low_word-low.ensures refl c.nth_in_word-then-place-lower-2.result past c.nth_in_word-then-place-lower-2.ensures.nth)

pub returns-else-place-lower-2 : goal.returns-else-place-lower-2
returns-else-place-lower-2 c =
    let small : c.args.set < 2 ^ 128 = omega arith in
    let past : count_ones c.low_word-low.result ≤ c.args.place = omega (arith, c.if-place-lower.false) in
    let over : count_ones (c.args.set / 2 ^ 64) ≤ c.args.place - count_ones c.low_word-low.result = omega (arith, c.if-place-lower-2.false) in
    sym (nth-past c.args.set c.low_word-low.result (c.args.set / 2 ^ 64) c.args.place c.low_word-low.ensures refl small past over)
