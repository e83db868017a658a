use Rattle.std.proofs.Common.{◌<◌, ◌≤◌, length, refl, arith}
use Rattle.crash_explorer.proofs.Fronts.{all_same, one_more_same}
use Rattle.crash_explorer.proofs.states.are_same.Goals as goal

pub returns : goal.returns
returns c =
    let one = c.args.one.now in
    let other = c.args.other.now in
    let few : length one ≤ c.loop-atom.atom = omega arith in
    let fewer : length other ≤ c.loop-atom.atom = omega arith in
    (λ _. all_same one other c.loop-atom.atom few fewer c.loop-atom.invariant, λ _. refl)

pub loop-atom-preserved : goal.loop-atom-preserved
loop-atom-preserved c =
    let one = c.args.one.now in
    let other = c.args.other.now in
    let i = c.loop-atom.atom in
    let inside : i < length one = omega arith in
    let within : i < length other = omega arith in
    one_more_same one other i c.state.result.now c.state-in-loop-atom.result.now inside within c.state.ensures c.state-in-loop-atom.ensures (c.same.ensures.0 c.if-not-same.false) c.loop-atom.invariant
