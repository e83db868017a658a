-- The lines that are left put to the connectors what all would have put.
use Rattle.std.proofs.Common.{◌≡◌, drop}
use Rattle.shown_fault.specs.Lent.{lists_of}
use Rattle.shown_fault.specs.Circle.{spread}
use Rattle.shown_fault.proofs.circle.spread.Given as goal

abbrev pub invariant-loop-line : goal.invariant-loop-line
invariant-loop-line l = spread l.is_up (lists_of l.names.items) (lists_of (drop l.line-index l.lines)) ≡ spread l.is_up (lists_of l.initial.names.items) (lists_of l.lines)
