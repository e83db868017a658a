-- The first word is one of those that are left.
use Rattle.std.proofs.Common.{◌≡◌, drop}
use Rattle.shown_fault.specs.Lent.{lists_of}
use Rattle.shown_fault.specs.Here.{end_of}
use Rattle.shown_fault.proofs.here.end_of.Given as goal

abbrev pub invariant-loop-index : goal.invariant-loop-index
invariant-loop-index l = end_of l.index (lists_of (drop l.index l.words)) ≡ end_of 0 (lists_of l.words)
