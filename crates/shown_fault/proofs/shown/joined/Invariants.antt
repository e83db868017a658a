-- The parts that are left stand after those so far.
use Rattle.std.proofs.Common.{◌≡◌, ◌++◌, drop}
use Rattle.shown_fault.specs.Lent.{lists_of}
use Rattle.shown_fault.specs.Shown.{joined}
use Rattle.shown_fault.proofs.shown.joined.Given as goal

abbrev pub invariant-loop-part : goal.invariant-loop-part
invariant-loop-part l = l.text.items ++ joined (lists_of (drop l.part-index l.parts)) ≡ joined (lists_of l.parts)
