-- The names of the lines that are left stand after those so far.
use Rattle.std.proofs.Common.{◌≡◌, ◌++◌, drop}
use Rattle.shown_fault.specs.Lent.{lists_of}
use Rattle.shown_fault.specs.Names.{names_in}
use Rattle.shown_fault.proofs.names.names_in.Given as goal

abbrev pub invariant-loop-line : goal.invariant-loop-line
invariant-loop-line l = lists_of l.names.items ++ names_in l.first (lists_of (drop l.line-index l.lines)) ≡ names_in l.first (lists_of l.lines)
