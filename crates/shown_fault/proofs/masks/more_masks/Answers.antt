use Rattle.std.proofs.Common.{arith}
use Rattle.std.proofs.lemmas.Grind.{common_steps}
use Rattle.shown_fault.proofs.Rowing.{no_room_for_mask}
use Rattle.shown_fault.proofs.masks.more_masks.Goals as goal

pub returns-then-left-eq0 : goal.returns-then-left-eq0
returns-then-left-eq0 c = grind (arith, common_steps, no_room_for_mask)
