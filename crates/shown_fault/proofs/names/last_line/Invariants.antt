-- The last one is one of the lines that are left, or else the one so far.
use Rattle.std.proofs.Common.{◌≡◌, ◌+◌, drop}
use Rattle.shown_fault.specs.Lent.{lists_of}
use Rattle.shown_fault.specs.Names.{last_line_from, last_line}
use Rattle.shown_fault.proofs.names.last_line.Given as goal

abbrev pub invariant-loop-index : goal.invariant-loop-index
invariant-loop-index l = last_line_from l.last (l.index + 1) l.first l.second (lists_of (drop l.index l.lines)) ≡ last_line l.first l.second (lists_of l.lines)
