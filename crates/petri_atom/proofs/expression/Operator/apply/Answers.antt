use Rattle.std.proofs.Common.{w64}
use Rattle.std.proofs.lemmas.Int.{wrapping_add_is, wrapping_sub_is}
use Rattle.petri_atom.proofs.expression.Operator.apply.Goals as goal

pub returns-in-Add : goal.returns-in-Add
returns-in-Add c = rw c.in-Add.is (wrapping_add_is w64 c.args.left c.args.right c.ranges.left c.ranges.right)

pub returns-in-Subtract : goal.returns-in-Subtract
returns-in-Subtract c =
    rw c.in-Subtract.is (wrapping_sub_is w64 c.args.left c.args.right c.ranges.left c.ranges.right)
