-- The latest one is one of the lines that are left, or else the one so far.
use Rattle.std.proofs.Common.{◌≡◌, drop}
use Rattle.shown_fault.specs.Lent.{lists_of}
use Rattle.shown_fault.specs.Names.{latest_after, latest_in}
use Rattle.shown_fault.proofs.names.latest_in.Given as goal

abbrev pub invariant-loop-line : goal.invariant-loop-line
invariant-loop-line l = latest_after l.latest l.first (lists_of (drop l.line-index l.lines)) ≡ latest_in l.first (lists_of l.lines)
