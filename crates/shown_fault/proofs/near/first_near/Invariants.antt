-- The first near name is one of those that are left.
use Rattle.std.proofs.Common.{◌≡◌, drop}
use Rattle.shown_fault.specs.Lent.{lists_of}
use Rattle.shown_fault.specs.Near.{first_near}
use Rattle.shown_fault.proofs.near.first_near.Given as goal

abbrev pub invariant-loop-name : goal.invariant-loop-name
invariant-loop-name l = first_near l.edits l.word (lists_of (drop l.name-index l.names)) ≡ first_near l.edits l.word (lists_of l.names)
