use Rattle.std.proofs.Common.{ap, sym}
use Rattle.plant_words.specs.LineFaults.{line_fault}
use Rattle.plant_words.proofs.line_fault.LineFaultFromExpressionFault.from.Goals as goal

pub returns-in-BadExpression : goal.returns-in-BadExpression
returns-in-BadExpression c = sym (ap line_fault c.in-BadExpression.is)
