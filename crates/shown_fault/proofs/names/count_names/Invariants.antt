-- The lines that are left are not counted yet.
use Rattle.std.proofs.Common.{◌≡◌, ◌+◌, ◌≤◌, drop, length}
use Rattle.shown_fault.specs.Lent.{lists_of}
use Rattle.shown_fault.specs.Names.{names_in}
use Rattle.shown_fault.proofs.names.count_names.Given as goal

abbrev pub invariant-loop-line : goal.invariant-loop-line
invariant-loop-line l = (l.count + length (names_in l.first (lists_of (drop l.line-index l.lines))) ≡ length (names_in l.first (lists_of l.lines))) × (l.count ≤ l.line-index)
