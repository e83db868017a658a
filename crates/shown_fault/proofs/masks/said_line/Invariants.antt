-- The last line is one of those that are left, or else the one so far.
use Rattle.std.proofs.Common.{◌≡◌, [], drop}
use Rattle.shown_fault.specs.Lent.{lists_of}
use Rattle.shown_fault.specs.Masks.{said_line}
use Rattle.shown_fault.proofs.masks.said_line.Given as goal

abbrev pub invariant-loop-line : goal.invariant-loop-line
invariant-loop-line l = said_line l.latest l.first l.second (lists_of (drop l.line-index l.lines)) ≡ said_line [] l.first l.second (lists_of l.lines)
