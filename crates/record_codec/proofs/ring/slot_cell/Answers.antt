use Rattle.std.proofs.Common.{rules}
use Rattle.record_codec.proofs.ring.slot_cell.Goals as goal

pub returns : goal.returns
returns c = search rules
