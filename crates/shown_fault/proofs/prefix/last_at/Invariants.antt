-- The last operator is one of the words that are left, or else the one so far.
use Rattle.std.proofs.Common.{◌≡◌, drop, None}
use Rattle.shown_fault.specs.Lent.{lists_of}
use Rattle.shown_fault.specs.Prefix.{last_at}
use Rattle.shown_fault.proofs.prefix.last_at.Given as goal

abbrev pub invariant-loop-index : goal.invariant-loop-index
invariant-loop-index l = last_at l.last l.level l.depth l.index (lists_of (drop l.index l.tokens)) ≡ last_at None l.level 0 0 (lists_of l.tokens)
