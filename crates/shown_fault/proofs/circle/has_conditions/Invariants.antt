-- A rule with a condition is one of the lines that are left, if there is one.
use Rattle.std.proofs.Common.{◌≡◌, drop}
use Rattle.shown_fault.specs.Lent.{lists_of}
use Rattle.shown_fault.specs.Circle.{has_conditions}
use Rattle.shown_fault.proofs.circle.has_conditions.Given as goal

abbrev pub invariant-loop-line : goal.invariant-loop-line
invariant-loop-line l = has_conditions (lists_of l.above) (lists_of l.below) (lists_of (drop l.line-index l.lines)) ≡ has_conditions (lists_of l.above) (lists_of l.below) (lists_of l.lines)
