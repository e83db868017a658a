use Rattle.std.proofs.Common.{◌+◌, ◌<◌, sym, ◌∙◌, ap, length, take, arith, Some}
use Rattle.std.proofs.lemmas.List.{length-set}
use Rattle.step_executor.proofs.Copied.{one-more-copied}
use Rattle.step_executor.proofs.committing.copied.Goals as goal

pub loop-atom-preserved : goal.loop-atom-preserved
loop-atom-preserved c =
    let states = c.loop-atom.states in
    let from = c.args.from.now in
    let i = c.loop-atom.atom in
    let inside : i < length states = omega arith in
    let within : i < length from = omega arith in
    record {
      as_many = ap length c.set.ensures ∙ length-set states i c.copy.result ∙ c.loop-atom.invariant.as_many;
      same = ap (take (i + 1)) c.set.ensures ∙ one-more-copied states from i c.copy.result inside within (c.state.ensures ∙ ap Some (sym c.copy.ensures)) c.loop-atom.invariant.same;
    }
