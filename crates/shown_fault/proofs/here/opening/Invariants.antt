-- The last word is one of those that are left, or else the one so far.
use Rattle.std.proofs.Common.{◌≡◌, drop}
use Rattle.shown_fault.specs.Lent.{lists_of}
use Rattle.shown_fault.specs.Here.{opening}
use Rattle.shown_fault.proofs.here.opening.Given as goal

abbrev pub invariant-loop-index : goal.invariant-loop-index
invariant-loop-index l = opening l.last l.index (lists_of (drop l.index l.words)) ≡ opening 0 0 (lists_of l.words)
