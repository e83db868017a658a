use Rattle.std.proofs.Common.{◌≡◌, suc, ◌+◌, ◌-◌, ◌<◌, ◌^◌, ◌∙◌, sym, ap, arith}
use Rattle.std.specs.Prelude.{bit_and, slice_get}
use Rattle.std.specs.Int.{w64}
use Rattle.petri_atom.specs.Local.{numbers_below}
use Rattle.petri_atom.proofs.Members.{lowest-below, nth-first, nth-later}
use Rattle.petri_atom.proofs.Picking.{some-left}
use Rattle.petri_atom.proofs.offered.nth_in_word.Goals as goal

pub loop-init : goal.loop-init
loop-init c =
    let e : c.args.place - 0 ≡ c.args.place = omega arith in
    ap (slice_get (numbers_below 64 c.args.word)) e

pub overflow_sub-left : goal.overflow_sub-left
overflow_sub-left c =
    let word_small : c.args.word < 2 ^ 64 = omega arith in
    let some = some-left c.args.word c.args.place c.loop.left (c.args.place - c.loop.counter) word_small c.requires c.loop.invariant in
    omega (arith, some)

pub loop-preserved : goal.loop-preserved
loop-preserved c =
    let left = c.loop.left in
    let rest = bit_and left (left - 1) in
    let later = c.args.place - (c.loop.counter + 1) in
    let word_small : c.args.word < 2 ^ 64 = omega arith in
    let some = some-left c.args.word c.args.place left (c.args.place - c.loop.counter) word_small c.requires c.loop.invariant in
    let small : left < 2 ^ 64 = omega arith in
    let e : c.args.place - c.loop.counter ≡ suc later = omega (arith, c.loop-test.true) in
    sym (ap (slice_get (numbers_below 64 left)) e ∙ nth-later w64 left some small later) ∙ c.loop.invariant

pub returns-clause-nth : goal.returns-clause-nth
returns-clause-nth c =
    let left = c.loop.left in
    let word_small : c.args.word < 2 ^ 64 = omega arith in
    let some = some-left c.args.word c.args.place left (c.args.place - c.loop.counter) word_small c.requires c.loop.invariant in
    let small : left < 2 ^ 64 = omega arith in
    let e : c.args.place - c.loop.counter ≡ 0 = omega (arith, c.loop-test.false) in
    sym (sym (ap (slice_get (numbers_below 64 left)) e ∙ nth-first w64 left some small) ∙ c.loop.invariant)

pub returns-clause-low : goal.returns-clause-low
returns-clause-low c =
    let left = c.loop.left in
    let word_small : c.args.word < 2 ^ 64 = omega arith in
    let some = some-left c.args.word c.args.place left (c.args.place - c.loop.counter) word_small c.requires c.loop.invariant in
    let small : left < 2 ^ 64 = omega arith in
    lowest-below w64 left some small
