-- The line is one of those that are left.
use Rattle.std.proofs.Common.{◌≡◌, ◌+◌, drop, false}
use Rattle.shown_fault.specs.Lent.{lists_of}
use Rattle.shown_fault.specs.Exports.{port_line}
use Rattle.shown_fault.proofs.exports.port_line.Given as goal

abbrev pub invariant-loop-index : goal.invariant-loop-index
invariant-loop-index l = port_line (l.index + 1) l.is_inside l.atom l.port (lists_of (drop l.index l.lines)) ≡ port_line 1 false l.atom l.port (lists_of l.lines)
