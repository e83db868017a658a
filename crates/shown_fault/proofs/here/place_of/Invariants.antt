-- The first word is one of those that are left.
use Rattle.std.proofs.Common.{◌≡◌, drop}
use Rattle.shown_fault.specs.Lent.{lists_of}
use Rattle.shown_fault.specs.Here.{place_of}
use Rattle.shown_fault.proofs.here.place_of.Given as goal

abbrev pub invariant-loop-index : goal.invariant-loop-index
invariant-loop-index l = place_of l.index l.word (lists_of (drop l.index l.words)) ≡ place_of 0 l.word (lists_of l.words)
