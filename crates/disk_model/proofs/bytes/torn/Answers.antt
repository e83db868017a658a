use Rattle.std.proofs.Common.{rules}
use Rattle.disk_model.proofs.bytes.torn.Goals as goal

pub returns-then-i-cell-eq1 : goal.returns-then-i-cell-eq1
returns-then-i-cell-eq1 c = search rules

pub returns-else-i-cell-eq1 : goal.returns-else-i-cell-eq1
returns-else-i-cell-eq1 c = search rules
