use Rattle.std.proofs.Common.{arith}
use Rattle.std.proofs.lemmas.Grind.{common_steps}
use Rattle.shown_fault.proofs.Rowing.{no_room}
use Rattle.shown_fault.proofs.missing.more_names.Goals as goal

pub returns-then-left-eq0 : goal.returns-then-left-eq0
returns-then-left-eq0 c = grind (arith, common_steps, no_room)
