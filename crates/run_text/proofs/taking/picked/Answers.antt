use Rattle.std.proofs.Common.{rules}
use Rattle.run_text.proofs.taking.picked.Goals as goal

pub returns-in_default-clause-choice : goal.returns-in_default-clause-choice
returns-in_default-clause-choice c = search rules
