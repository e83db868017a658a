use Rattle.std.proofs.Common.{arith}
use Rattle.run_text.proofs.UsualRow.{at-most}
use Rattle.run_text.proofs.weights.Weights.usual.Goals as goal

pub invariant_of-result : goal.invariant_of-result
invariant_of-result c = λ connector. omega (arith, at-most 64 100 connector)
