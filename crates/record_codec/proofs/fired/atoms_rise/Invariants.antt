use Rattle.std.proofs.Common.{◌≡◌, ◌-◌, drop}
use Rattle.record_codec.specs.Fired.{is_rising, atoms_of}
use Rattle.record_codec.proofs.fired.atoms_rise.Given as goal

abbrev pub invariant-loop-next : goal.invariant-loop-next
invariant-loop-next l = is_rising (atoms_of (drop (l.next - 1) l.entries)) ≡ is_rising (atoms_of l.entries)
