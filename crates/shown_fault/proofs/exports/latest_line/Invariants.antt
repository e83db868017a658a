-- The last line is one of those that are left, or else the one so far.
use Rattle.std.proofs.Common.{◌≡◌, [], drop}
use Rattle.shown_fault.specs.Lent.{lists_of}
use Rattle.shown_fault.specs.Exports.{latest_line}
use Rattle.shown_fault.proofs.exports.latest_line.Given as goal

abbrev pub invariant-loop-line : goal.invariant-loop-line
invariant-loop-line l = latest_line l.latest l.first (lists_of (drop l.line-index l.lines)) ≡ latest_line [] l.first (lists_of l.lines)
