use Rattle.std.proofs.Common.{arith}
use Rattle.record_codec.proofs.Rising.{rising_end}
use Rattle.record_codec.proofs.fired.atoms_rise.Goals as goal

pub returns : goal.returns
returns c = rising_end c.args.entries.now c.loop-next.next (omega arith) c.loop-next.invariant
