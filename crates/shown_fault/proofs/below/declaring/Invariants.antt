-- The line is one of those that are left.
use Rattle.std.proofs.Common.{◌≡◌, drop}
use Rattle.shown_fault.specs.Lent.{lists_of}
use Rattle.shown_fault.specs.Below.{declaring}
use Rattle.shown_fault.proofs.below.declaring.Given as goal

abbrev pub invariant-loop-line : goal.invariant-loop-line
invariant-loop-line l = declaring l.is_part l.first l.second (lists_of (drop l.line-index l.lines)) ≡ declaring l.is_part l.first l.second (lists_of l.lines)
