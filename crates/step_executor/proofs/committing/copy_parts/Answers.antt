use Rattle.std.proofs.Common.{◌^◌, ◌<◌, arith, w64}
use Rattle.plant_model.proofs.WithoutLowest.{fewer-less}
use Rattle.step_executor.proofs.Marked.{all-committed, lowest-there, marked-less}
use Rattle.step_executor.proofs.committing.copy_parts.Goals as goal

pub loop-left-smaller : goal.loop-left-smaller
loop-left-smaller c = fewer-less w64 c.loop-left.left (omega (arith, c.loop-left-test.true)) (omega arith)

pub copy_part-requires-clause-there : goal.copy_part-requires-clause-there
copy_part-requires-clause-there c =
    let left = c.loop-left.left in
    let some : 0 < left = omega (arith, c.loop-left-test.true) in
    let small : left < 2 ^ 64 = omega arith in
    lowest-there left c.loop-left.parts c.args.from.now c.loop-left.invariant.marked some small

pub loop-left-preserved : goal.loop-left-preserved
loop-left-preserved c =
    let left = c.loop-left.left in
    let some : 0 < left = omega (arith, c.loop-left-test.true) in
    let small : left < 2 ^ 64 = omega arith in
    let copied = marked-less left c.loop-left.parts c.args.from.now c.loop-left.invariant.marked some small c.copy_part.new.parts c.loop-left.invariant.as_many c.copy_part.ensures in
    record {
      as_many = copied.0;
      marked = copied.1;
    }

pub returns : goal.returns
returns c = all-committed c.loop-left.left c.loop-left.parts c.args.from.now (omega (arith, c.loop-left-test.false)) c.loop-left.invariant.as_many c.loop-left.invariant.marked
