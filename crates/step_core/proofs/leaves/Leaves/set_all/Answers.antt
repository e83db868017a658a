use Rattle.std.proofs.Common.{arith}
use Rattle.std.proofs.lemmas.Option.{slice_get-get_or, slice_get_within}
use Rattle.step_core.specs.Leaves.{is_many, is_none}
use Rattle.step_core.proofs.Written.{one-written}
use Rattle.step_core.proofs.leaves.Leaves.set_all.Goals as goal

pub loop-leaf-preserved : goal.loop-leaf-preserved
loop-leaf-preserved c =
    let list = c.args.leaves.now in
    let n = c.loop-leaf.leaf-index in
    let there = slice_get-get_or list n (record { connector = 0; leaf = 0 }) c.loop-leaf-test.true in
    record {
      off = one-written list n (is_none c.args.count) _ _ _ _ there c.set.ensures.off c.loop-leaf.invariant.off;
      many = one-written list n (is_many c.args.count) _ _ _ _ there c.set.ensures.many c.loop-leaf.invariant.many;
    }

pub returns-clause-off : goal.returns-clause-off
returns-clause-off c n l there = c.loop-leaf.invariant.off.here n l (omega (arith, slice_get_within c.args.leaves.now n l there, c.loop-leaf-test.false)) there

pub returns-clause-many : goal.returns-clause-many
returns-clause-many c n l there = c.loop-leaf.invariant.many.here n l (omega (arith, slice_get_within c.args.leaves.now n l there, c.loop-leaf-test.false)) there

pub returns-clause-others_off : goal.returns-clause-others_off
returns-clause-others_off c k leaf none = c.loop-leaf.invariant.off.others k leaf (λ n l below there. none n l there)

pub returns-clause-others_many : goal.returns-clause-others_many
returns-clause-others_many c k leaf none = c.loop-leaf.invariant.many.others k leaf (λ n l below there. none n l there)
